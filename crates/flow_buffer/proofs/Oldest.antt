-- The history after the oldest held value got another fate, or after a value came to its end.
use Rattle.std.proofs.Common.{◌≡◌, ℕ, ◌+◌, ◌<◌, Bool, true, false, true≢false, cond, List, [], ◌∷◌, ◌++◌, length, drop, refl, ap, ◌∙◌, arith}
use Rattle.flow_buffer.specs.declared.side.Fate.{Fate}
use Rattle.flow_buffer.specs.declared.side.Fate.TheVariants.{Taken, Stored, Dropped}
use Rattle.flow_buffer.specs.History.{is_taken, is_stored, is_dropped, picked}
use Rattle.flow_buffer.specs.Contents.{IsOrdered, oldest}
use Rattle.flow_buffer.proofs.Histories.{picked-append, picked_same}

longer_cond : {A : Type 0} (b : Bool) (y z : A) (new old : List A) → length new ≡ length old + 1 → length (cond b (y ∷ new) new) ≡ length (cond b (z ∷ old) old) + 1
longer_cond true y z new old is = omega arith
longer_cond false y z new old is = is

module _ {T : Type 0} where
  -- a value at the end
  pub picked_last : (p : Fate → Bool) (l : List (Fate × T)) (f : Fate) (x : T) → p f ≡ true → picked p 0 (l ++ (f, x) ∷ []) ≡ picked p 0 l ++ (0 + length l, x) ∷ []
  picked_last p l f x passes = picked-append p 0 l ((f, x) ∷ []) ∙ ap (λ b. picked p 0 l ++ cond b ((0 + length l, x) ∷ []) []) passes

  -- the oldest held value is held no more
  pub oldest_held : (f : Fate) → is_stored f ≡ false → (n : ℕ) (l : List (Fate × T)) → picked is_stored n (oldest f l) ≡ drop 1 (picked is_stored n l)
  oldest_held f free n [] = refl
  oldest_held f free n ((Stored, x) ∷ l) = ap (λ b. cond b ((n, x) ∷ picked is_stored (n + 1) l) (picked is_stored (n + 1) l)) free
  oldest_held f free n ((Taken, x) ∷ l) = oldest_held f free (n + 1) l
  oldest_held f free n ((Dropped, x) ∷ l) = oldest_held f free (n + 1) l

  -- it counts among those of its fate
  pub oldest_counts : (p : Fate → Bool) (f : Fate) → p f ≡ true → p Stored ≡ false → (n : ℕ) (l : List (Fate × T)) → 0 < length (picked is_stored n l)
      → length (picked p n (oldest f l)) ≡ length (picked p n l) + 1
  oldest_counts p f passes free n [] some = absurd (omega arith)
  oldest_counts p f passes free n ((Stored, x) ∷ l) some =
      let is : length (cond (p f) ((n, x) ∷ picked p (n + 1) l) (picked p (n + 1) l)) ≡ length ((n, x) ∷ picked p (n + 1) l) = ap (λ b. length (cond b ((n, x) ∷ picked p (n + 1) l) (picked p (n + 1) l))) passes in
      let was : length (cond (p Stored) ((n, x) ∷ picked p (n + 1) l) (picked p (n + 1) l)) ≡ length (picked p (n + 1) l) = ap (λ b. length (cond b ((n, x) ∷ picked p (n + 1) l) (picked p (n + 1) l))) free in omega arith
  oldest_counts p f passes free n ((Taken, x) ∷ l) some = longer_cond (p Taken) (n, x) (n, x) (picked p (n + 1) (oldest f l)) (picked p (n + 1) l) (oldest_counts p f passes free (n + 1) l some)
  oldest_counts p f passes free n ((Dropped, x) ∷ l) some = longer_cond (p Dropped) (n, x) (n, x) (picked p (n + 1) (oldest f l)) (picked p (n + 1) l) (oldest_counts p f passes free (n + 1) l some)

  -- it changes nothing for a test that both fates fail
  pub oldest_same : (p : Fate → Bool) (f : Fate) → p f ≡ p Stored → (n : ℕ) (l : List (Fate × T)) → picked p n (oldest f l) ≡ picked p n l
  oldest_same p f same n [] = refl
  oldest_same p f same n ((Stored, x) ∷ l) = ap (λ b. cond b ((n, x) ∷ picked p (n + 1) l) (picked p (n + 1) l)) same
  oldest_same p f same n ((Taken, x) ∷ l) = ap (λ t. cond (p Taken) ((n, x) ∷ t) t) (oldest_same p f same (n + 1) l)
  oldest_same p f same n ((Dropped, x) ∷ l) = ap (λ t. cond (p Dropped) ((n, x) ∷ t) t) (oldest_same p f same (n + 1) l)

  nothing_at : (n m : ℕ) (l : List (Fate × T)) → picked is_taken n l ≡ [] → picked is_taken m l ≡ []
  nothing_at n m [] none = refl
  nothing_at n m ((Stored, x) ∷ l) none = nothing_at (n + 1) (m + 1) l none
  nothing_at n m ((Taken, x) ∷ l) none = cc
  nothing_at n m ((Dropped, x) ∷ l) none = nothing_at (n + 1) (m + 1) l none

  -- where nothing is taken, all is in order
  none_taken : (n : ℕ) (l : List (Fate × T)) → picked is_taken n l ≡ [] → IsOrdered l
  none_taken n [] none = tt
  none_taken n ((Stored, x) ∷ l) none = nothing_at (n + 1) 0 l none
  none_taken n ((Taken, x) ∷ l) none = cc
  none_taken n ((Dropped, x) ∷ l) none = none_taken (n + 1) l none

  ordered_turned : (f : Fate) (x : T) (l : List (Fate × T)) → is_stored f ≡ false → IsOrdered l → IsOrdered ((f, x) ∷ l)
  ordered_turned Stored x l free is = absurd (true≢false free)
  ordered_turned Taken x l free is = is
  ordered_turned Dropped x l free is = is

  pub oldest_ordered : (f : Fate) → is_stored f ≡ false → (l : List (Fate × T)) → IsOrdered l → IsOrdered (oldest f l)
  oldest_ordered f free [] is = tt
  oldest_ordered f free ((Stored, x) ∷ l) is = ordered_turned f x l free (none_taken 0 l is)
  oldest_ordered f free ((Taken, x) ∷ l) is = oldest_ordered f free l is
  oldest_ordered f free ((Dropped, x) ∷ l) is = oldest_ordered f free l is

  ordered_alone : (f : Fate) (x : T) → IsOrdered ((f, x) ∷ [])
  ordered_alone Stored x = refl
  ordered_alone Taken x = tt
  ordered_alone Dropped x = tt

  -- a value that isn't taken comes last
  pub ordered_last : (f : Fate) → is_taken f ≡ false → (l : List (Fate × T)) (x : T) → IsOrdered l → IsOrdered (l ++ (f, x) ∷ [])
  ordered_last f free [] x is = ordered_alone f x
  ordered_last f free ((Stored, y) ∷ l) x is = picked_same is_taken 0 l (f, x) free ∙ is
  ordered_last f free ((Taken, y) ∷ l) x is = ordered_last f free l x is
  ordered_last f free ((Dropped, y) ∷ l) x is = ordered_last f free l x is

  -- each value has one fate
  pub all_fates : (n : ℕ) (l : List (Fate × T)) → length (picked is_taken n l) + (length (picked is_stored n l) + length (picked is_dropped n l)) ≡ length l
  all_fates n [] = refl
  all_fates n ((Taken, x) ∷ l) = let rest = all_fates (n + 1) l in omega arith
  all_fates n ((Stored, x) ∷ l) = let rest = all_fates (n + 1) l in omega arith
  all_fates n ((Dropped, x) ∷ l) = let rest = all_fates (n + 1) l in omega arith
