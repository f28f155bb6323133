-- What is left of preludes, as contracts see it, against the subscriptions.
use Rattle.std.proofs.Common.{◌≡◌, ℕ, zero, suc, ◌+◌, ◌-◌, ◌<◌, ◌≤◌, Bool, true, false, cond, List, [], ◌∷◌, ◌++◌, length, map, set, Some, slice_get, refl, sym, ap, ◌∙◌, arith}
use Rattle.std.proofs.lemmas.Bool.{eq-eqb, ne_eqb}
use Rattle.std.proofs.lemmas.Option.{none-some, same_Some}
use Rattle.std.specs.List.{filter, remove}
use Rattle.shared_core.specs.Flow.{Subscription, rest, greeted, receive_first, received_next, lose_first, lost_next, pending, change}
use Rattle.shared_core.specs.Shown.{rests_from, is_some_left, rest_of}
use Rattle.shared_core.specs.Preludes.{left_at, begun_with, IsWithout}
use Rattle.shared_core.proofs.Greeting.{rest-closed, rest-greeted}
use Rattle.shared_core.proofs.Numbered.{IsEntry, passing, failing, fails_without_entry, numbered-push, numbered-push_failing, numbered-changed, numbered-mapped, numbered-failing}
use Rattle.shared_core.proofs.Pending.{opened_with}

none_left : {X : Type 0} (xs : List X) → is_some_left xs ≡ false → xs ≡ []
none_left [] none = refl
none_left (x ∷ xs) none = absurd (cc)

module _ {T : Type 0} where
  -- some of its prelude is left
  abbrev pub has_rest : Subscription T → Bool
  has_rest s = is_some_left (rest s)

  abbrev pub IsRest : ℕ → List (Subscription T) → ℕ → ℕ → List T → Type 0
  IsRest n xs at m values = IsEntry has_rest rest n xs at m values

  kept_rests : (f : Subscription T → Subscription T) → ((s : Subscription T) → rest (f s) ≡ rest s) → (n k : ℕ) (xs : List (Subscription T)) → rests_from n (change k f xs) ≡ rests_from n xs
  kept_rests f same n k xs = numbered-changed has_rest rest f (λ s. ap is_some_left (same s)) same n k xs

  -- a receipt and a loss leave what is left of preludes
  rest-received : (s : Subscription T) (vs : List T) (indexes : List ℕ) → rest (receive_first s vs indexes) ≡ rest s
  rest-received s (v ∷ vs) indexes = refl
  rest-received s [] [] = refl
  rest-received s [] (i ∷ indexes) = refl

  pub rests-received : (total n k : ℕ) (xs : List (Subscription T)) → rests_from n (change k (received_next total) xs) ≡ rests_from n xs
  rests-received total n k xs = kept_rests (received_next total) (λ s. rest-received s (rest s) (pending total s)) n k xs

  rest-lost : (s : Subscription T) (indexes : List ℕ) → rest (lose_first s indexes) ≡ rest s
  rest-lost s [] = refl
  rest-lost s (i ∷ indexes) = refl

  rest-cond : (b : Bool) (s t : Subscription T) → rest t ≡ rest s → rest (cond b t s) ≡ rest s
  rest-cond true s t same = same
  rest-cond false s t same = refl

  pub rests-lost : (which : Subscription T → Bool) (total n : ℕ) (xs : List (Subscription T)) → rests_from n (map (λ s. cond (which s) (lost_next total s) s) xs) ≡ rests_from n xs
  rests-lost which total n xs =
      let same = λ (s : Subscription T). rest-cond (which s) s (lost_next total s) (rest-lost s (pending total s)) in
      numbered-mapped has_rest rest (λ s. cond (which s) (lost_next total s) s) (λ s. ap is_some_left (same s)) same n xs

  -- a new subscription has all of its prelude left
  pub rests-opened : (prelude : List T) (start n : ℕ) (xs : List (Subscription T)) → rests_from n (xs ++ opened_with prelude start ∷ []) ≡ begun_with (n + length xs) prelude (rests_from n xs)
  rests-opened [] start n xs = numbered-push_failing has_rest rest n xs (opened_with [] start) refl
  rests-opened (v ∷ vs) start n xs = numbered-push has_rest rest n xs (opened_with (v ∷ vs) start) refl

  -- where no entry has its number, nothing is left
  pub rest-without : (n m k : ℕ) (xs : List (Subscription T)) (s : Subscription T) → slice_get xs k ≡ Some s → m ≡ n + k → IsWithout m (rests_from n xs) → rest s ≡ []
  rest-without n m k xs s gets numbered missing =
      let index : m - n ≡ k = omega (arith, numbered) in
      none_left (rest s) (fails_without_entry has_rest rest n m xs (omega (arith, numbered)) missing s (ap (slice_get xs) index ∙ gets))

  closed_none : (s : Subscription T) → has_rest (record s { live = false }) ≡ false
  closed_none s = ap is_some_left (rest-closed (record s { live = false }) refl)

  pub rests-closed_without : (n k : ℕ) (xs : List (Subscription T)) (s : Subscription T) → slice_get xs k ≡ Some s → rest s ≡ [] → rests_from n (change k (λ s. record s { live = false }) xs) ≡ rests_from n xs
  rests-closed_without n k xs s gets none = numbered-failing has_rest rest (λ s. record s { live = false }) n k xs s gets (ap is_some_left none) (closed_none s)

  pub rests-closed : (n : ℕ) (xs : List (Subscription T)) {at m : ℕ} {values : List T} (e : IsRest n xs at m values) → rests_from n (change e.k (λ s. record s { live = false }) xs) ≡ remove (rests_from n xs) at
  rests-closed n xs e = e.removed (λ s. record s { live = false }) (closed_none e.x)

  -- a greeting leaves what comes after the value that was given
  pub rests-greeted : (n : ℕ) (xs : List (Subscription T)) (at m : ℕ) (v : T) (more : List T) (e : IsRest n xs at m (v ∷ more)) → rests_from n (change e.k greeted xs) ≡ left_at at m more (rests_from n xs)
  rests-greeted n xs at m v [] e = e.removed greeted (ap is_some_left (rest-greeted e.x v [] (sym e.shows)))
  rests-greeted n xs at m v (w ∷ more) e =
      let left = rest-greeted e.x v (w ∷ more) (sym e.shows) in
      e.kept greeted (ap is_some_left left) ∙ ap (λ vs. set (rests_from n xs) at (m, vs)) left

  -- what an entry has left, by its number
  later_none : (n m : ℕ) (xs : List (Subscription T)) → m < n → rest_of m (rests_from n xs) ≡ []
  later_none n m [] below = refl
  later_none n m (x ∷ xs) below =
      let later = later_none (n + 1) m xs (omega arith) in
      elim (has_rest x) as (λ b. has_rest x ≡ b → rest_of m (rests_from n (x ∷ xs)) ≡ []) [
        | true ↦ λ some. ap (rest_of m) (passing has_rest rest n x xs some) ∙ ap (λ b. cond b (rest x) (rest_of m (rests_from (n + 1) xs))) (ne_eqb n m (λ same. omega arith)) ∙ later
        | false ↦ λ none. ap (rest_of m) (failing has_rest rest n x xs none) ∙ later
      ] refl

  pub rest_of-shown : (n k : ℕ) (xs : List (Subscription T)) (s : Subscription T) → slice_get xs k ≡ Some s → rest_of (n + k) (rests_from n xs) ≡ rest s
  rest_of-shown n k [] s gets = absurd (none-some s gets)
  rest_of-shown n zero (x ∷ xs) s gets =
      let this = same_Some x s gets in
      let here : n + 0 ≡ n = omega arith in
      elim (has_rest x) as (λ b. has_rest x ≡ b → rest_of (n + 0) (rests_from n (x ∷ xs)) ≡ rest s) [
        | true ↦ λ some. ap (rest_of (n + 0)) (passing has_rest rest n x xs some) ∙ ap (λ b. cond b (rest x) (rest_of (n + 0) (rests_from (n + 1) xs))) (eq-eqb n (n + 0) (sym here)) ∙ ap rest this
        | false ↦ λ none. ap (rest_of (n + 0)) (failing has_rest rest n x xs none) ∙ later_none (n + 1) (n + 0) xs (omega arith) ∙ sym (none_left (rest x) none) ∙ ap rest this
      ] refl
  rest_of-shown n (suc k) (x ∷ xs) s gets =
      let further : (n + 1) + k ≡ n + suc k = omega arith in
      let later = ap (λ m. rest_of m (rests_from (n + 1) xs)) (sym further) ∙ rest_of-shown (n + 1) k xs s gets in
      elim (has_rest x) as (λ b. has_rest x ≡ b → rest_of (n + suc k) (rests_from n (x ∷ xs)) ≡ rest s) [
        | true ↦ λ some. ap (rest_of (n + suc k)) (passing has_rest rest n x xs some) ∙ ap (λ b. cond b (rest x) (rest_of (n + suc k) (rests_from (n + 1) xs))) (ne_eqb n (n + suc k) (λ same. omega arith)) ∙ later
        | false ↦ λ none. ap (rest_of (n + suc k)) (failing has_rest rest n x xs none) ∙ later
      ] refl

  -- no more preludes are left than subscriptions live
  pub fewer_rests : (xs : List (Subscription T)) → length (filter has_rest xs) ≤ length (filter (λ s. s.live) xs)
  fewer_rests [] = omega arith
  fewer_rests (x ∷ xs) =
      let later = fewer_rests xs in
      elim x.live as (λ b. x.live ≡ b → length (cond (has_rest x) (x ∷ filter has_rest xs) (filter has_rest xs)) ≤ length (cond b (x ∷ filter (λ s. s.live) xs) (filter (λ s. s.live) xs))) [
        | true ↦ λ _. elim (has_rest x) as (λ b. length (cond b (x ∷ filter has_rest xs) (filter has_rest xs)) ≤ suc (length (filter (λ s. s.live) xs))) [ true ↦ omega (arith, later) | false ↦ omega (arith, later) ]
        | false ↦ λ closed.
            let none : has_rest x ≡ false = ap is_some_left (rest-closed x closed) in
            omega (arith, later, ap (λ b. length (cond b (x ∷ filter has_rest xs) (filter has_rest xs))) none)
      ] refl
