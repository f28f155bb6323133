-- Lists of entries, and the story of a place.
use Rattle.std.proofs.Common.{◌≡◌, ◌≢◌, ◌⊎◌, ℕ, zero, suc, ◌+◌, ◌-◌, ◌<◌, ◌≤◌, Bool, true, false, true≢false, List, [], ◌∷◌, ◌++◌, length, replicate, get_or, take, drop, set, sym, refl, ap, ◌∙◌, subst, inl, inr, arith, length-append, append_assoc}
use mathlib.Core.Option.{some, some-ne-none}
use lib.ListN.{get_elem?}
use Rattle.std.proofs.lemmas.List.{append-nil}
use Rattle.flow_terms.specs.Lists.{IsPrefix}
use Rattle.shared_lane.specs.Law.{lost}

pub which : (b : Bool) → (b ≡ true) ⊎ (b ≡ false)
which true = inl refl
which false = inr refl

pub not_both : {P : Type 0} (b : Bool) → b ≡ true → b ≡ false → P
not_both b t f = absurd (true≢false (sym t ∙ f))

module _ {A : Type 0} where
  pub there : (l : List A) (i : ℕ) → i < length l → (a : A) × (get_elem? l i ≡ some a)
  there [] i h = absurd (omega arith)
  there (x ∷ xs) zero h = (x, refl)
  there (x ∷ xs) (suc i) h = there xs i (omega arith)

  pub within : (l : List A) (i : ℕ) (a : A) → get_elem? l i ≡ some a → i < length l
  within [] i a e = absurd (some-ne-none a (sym e))
  within (x ∷ xs) zero a e = omega arith
  within (x ∷ xs) (suc i) a e = let h = within xs i a e in omega arith

  pub index_there : (l : List A) (i : ℕ) (d : A) → i < length l → get_elem? l i ≡ some (get_or l i d)
  index_there [] i d h = absurd (omega arith)
  index_there (x ∷ xs) zero d h = refl
  index_there (x ∷ xs) (suc i) d h = index_there xs i d (omega arith)

  pub index_is : (l : List A) (i : ℕ) (d a : A) → get_elem? l i ≡ some a → get_or l i d ≡ a
  index_is [] i d a e = absurd (some-ne-none a (sym e))
  index_is (x ∷ xs) zero d a e = mathlib.Core.Option.some-injective x a e
  index_is (x ∷ xs) (suc i) d a e = index_is xs i d a e

  pub at_end : (l : List A) (a b : A) (j : ℕ) → get_elem? (l ++ a ∷ []) j ≡ some b → (get_elem? l j ≡ some b) ⊎ ((j ≡ length l) × (a ≡ b))
  at_end [] a b zero e = inr (refl, mathlib.Core.Option.some-injective a b e)
  at_end [] a b (suc j) e = absurd (some-ne-none b (sym e))
  at_end (x ∷ xs) a b zero e = inl e
  at_end (x ∷ xs) a b (suc j) e = Rattle.std.proofs.Common.⊎_elim (λ t. inl t) (λ t. inr (ap suc t.0, t.1)) (at_end xs a b j e)

  -- the front of a longer list
  pub at_front : (l m : List A) (i : ℕ) → i < length l → get_elem? (l ++ m) i ≡ get_elem? l i
  at_front [] m i h = absurd (omega arith)
  at_front (x ∷ xs) m zero h = refl
  at_front (x ∷ xs) m (suc i) h = at_front xs m i (omega arith)

  -- where the first after the list l is a now
  pub at_first : (l m : List A) (a b : A) (i : ℕ) → get_elem? (l ++ a ∷ drop 1 m) i ≡ some b → ((i ≡ length l) × (a ≡ b)) ⊎ ((i ≢ length l) × (get_elem? (l ++ m) i ≡ some b))
  at_first [] m a b zero e = inl (refl, mathlib.Core.Option.some-injective a b e)
  at_first [] [] a b (suc i) e = absurd (some-ne-none b (sym e))
  at_first [] (y ∷ ys) a b (suc i) e = inr ((λ h. omega arith), e)
  at_first (x ∷ xs) m a b zero e = inr ((λ h. omega arith), e)
  at_first (x ∷ xs) m a b (suc i) e = Rattle.std.proofs.Common.⊎_elim (λ t. inl (ap suc t.0, t.1)) (λ t. let n = t.0 in inr ((λ h. n (omega arith)), t.1)) (at_first xs m a b i e)

  pub first_length : (m : List A) (a : A) → (length (a ∷ drop 1 m) ≡ 1) ⊎ (length (a ∷ drop 1 m) ≡ length m)
  first_length [] a = inl refl
  first_length (y ∷ ys) a = inr refl

  pub first_longer : (m : List A) (a : A) → length m ≤ length (a ∷ drop 1 m)
  first_longer [] a = omega arith
  first_longer (y ∷ ys) a = omega arith

  pub some_length : (l : List A) → l ≢ [] → 0 < length l
  some_length [] ne = absurd (ne refl)
  some_length (x ∷ xs) ne = omega arith

  pub one_taken : (l : List A) → l ≢ [] → length (take 1 l) ≡ 1
  one_taken [] ne = absurd (ne refl)
  one_taken (x ∷ xs) ne = refl

  pub front : (n : ℕ) (l : List A) → l ≡ take n l ++ drop n l
  front zero l = refl
  front (suc n) [] = refl
  front (suc n) (x ∷ xs) = ap (λ m. x ∷ m) (front n xs)

  pub prefix_self : (l : List A) → IsPrefix l l
  prefix_self l = ([], sym (append-nil l))

  pub prefix_length : (l start : List A) → IsPrefix start l → length start ≤ length l
  prefix_length l start b = let e : length l ≡ length start + length b.0 = ap length b.1 ∙ length-append start b.0 in omega arith

  pub prefix_at : (l start : List A) (i : ℕ) → IsPrefix start l → i < length start → get_elem? l i ≡ get_elem? start i
  prefix_at l start i b h = ap (λ (k : List A). get_elem? k i) b.1 ∙ at_front start b.0 i h

  pub prefix_shorter : (l start more : List A) → IsPrefix (start ++ more) l → IsPrefix start l
  prefix_shorter l start more b = (more ++ b.0, b.1 ∙ append_assoc start more b.0)

-- a list of one value has no other in it
none_else : (a : ℕ) (xs ys : List Bool) → replicate a true ≡ xs ++ false ∷ ys → ⊥
none_else zero [] ys e = absurd (cc)
none_else zero (x ∷ xs) ys e = absurd (cc)
none_else (suc a) [] ys e = true≢false (ap (λ (l : List Bool). get_or l 0 true) e)
none_else (suc a) (x ∷ xs) ys e = none_else a xs ys (ap (λ (l : List Bool). Rattle.std.proofs.Common.drop 1 l) e)

pub none_lost : (a b : ℕ) (xs : List Bool) → replicate a true ≡ xs ++ replicate b false → b ≡ 0
none_lost a zero xs e = refl
none_lost a (suc b) xs e = absurd (none_else a xs (replicate b false) e)

pub one_more : {A : Type 0} (k : ℕ) (a : A) → replicate k a ++ a ∷ [] ≡ replicate (suc k) a
one_more zero a = refl
one_more (suc k) a = ap (λ l. a ∷ l) (one_more k a)

-- what is received is not lost
none_of : (n k : ℕ) → lost n (replicate k true) ≡ []
none_of n zero = refl
none_of n (suc k) = none_of (suc n) k

pub lost_none : (n k : ℕ) (bs : List Bool) → lost n (bs ++ replicate k true) ≡ lost n bs
lost_none n k [] = none_of n k
lost_none n k (true ∷ bs) = lost_none (suc n) k bs
lost_none n k (false ∷ bs) = ap (λ l. n ∷ l) (lost_none (suc n) k bs)

pub lost_one : (n : ℕ) (bs : List Bool) → lost n (bs ++ false ∷ []) ≡ lost n bs ++ (n + length bs) ∷ []
lost_one n [] = ap (λ (k : ℕ). k ∷ []) (omega arith)
lost_one n (true ∷ bs) = lost_one (suc n) bs ∙ ap (λ (k : ℕ). lost (suc n) bs ++ k ∷ []) (omega arith)
lost_one n (false ∷ bs) = ap (λ l. n ∷ l) (lost_one (suc n) bs ∙ ap (λ (k : ℕ). lost (suc n) bs ++ k ∷ []) (omega arith))
