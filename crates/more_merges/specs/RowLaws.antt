-- Laws of the latest values of several sources.
use Rattle.std.specs.Prelude.{◌≡◌, ℕ, ◌+◌, ◌-◌, ◌<◌, ◌≤◌, List, [], ◌∷◌, ◌++◌, Option, Some, None, option_map, refl, length, take, replicate, slice_set, slice_index_or}
use Rattle.std.proofs.Common.{zero, suc, sym, ◌∙◌, ap, arith}
use Rattle.std.proofs.lemmas.List.{take_more}
use Rattle.more_merges.specs.Row.{whole, latest_after}

module _ {A : Type 0} where
  onto : (w x : A) (ys : List A) (o p : Option (List A)) → option_map (λ zs. w ∷ zs) o ≡ Some ys
      → ((zs : List A) → o ≡ Some zs → p ≡ Some (zs ++ x ∷ [])) → option_map (λ zs. w ∷ zs) p ≡ Some (ys ++ x ∷ [])
  onto w x ys None p is more = absurd (cc)
  onto w x ys (Some zs) p is more =
      let same : w ∷ zs ≡ ys = cc in
      ap (option_map (λ us. w ∷ us)) (more zs refl) ∙ ap (λ (us : List A). Some (us ++ x ∷ [])) same

  whole-push : (xs : List (Option A)) (x : A) (ys : List A) → whole xs ≡ Some ys → whole (xs ++ Some x ∷ []) ≡ Some (ys ++ x ∷ [])
  whole-push [] x ys is = let none : [] ≡ ys = cc in ap (λ (zs : List A). Some (zs ++ x ∷ [])) none
  whole-push (None ∷ xs) x ys is = absurd (cc)
  whole-push (Some w ∷ xs) x ys is = onto w x ys (whole xs) (whole (xs ++ Some x ∷ [])) is (λ zs was. whole-push xs x zs was)

  -- one more that is there
  pub whole_more : (xs : List (Option A)) (i : ℕ) (x : A) (ys more : List A) → i < length xs → Some x ≡ slice_index_or xs i (Some x)
      → whole (take i xs) ≡ Some ys → more ≡ ys ++ x ∷ [] → whole (take (i + 1) xs) ≡ Some more
  whole_more xs i x ys more inside is was then =
      ap whole (take_more xs i (Some x) inside) ∙ ap (λ (o : Option A). whole (take i xs ++ o ∷ [])) (sym is)
      ∙ whole-push (take i xs) x ys was ∙ ap Some (sym then)

  -- one that isn't
  pub whole_lacks : (xs : List (Option A)) (i : ℕ) → i < length xs → None ≡ slice_index_or xs i None → whole xs ≡ None
  whole_lacks [] i inside is = absurd (omega arith)
  whole_lacks (None ∷ xs) i inside is = refl
  whole_lacks (Some x ∷ xs) zero inside is = absurd (cc)
  whole_lacks (Some x ∷ xs) (suc i) inside is = ap (option_map (λ ys. x ∷ ys)) (whole_lacks xs i (omega arith) is)

  set-past : (xs : List (Option A)) (i : ℕ) (o : Option A) → length xs ≤ i → slice_set xs i o ≡ xs
  set-past [] i o past = refl
  set-past (x ∷ xs) zero o past = absurd (omega arith)
  set-past (x ∷ xs) (suc i) o past = ap (λ (ys : List (Option A)). x ∷ ys) (set-past xs i o (omega arith))

  -- a value of a source that there isn't
  pub latest_past : (xs : List (Option A)) (i : ℕ) (x : A) → length xs ≤ i → xs ≡ latest_after xs (i, x)
  latest_past xs i x past = sym (set-past xs i (Some x) past)

module _ {X : Type 0} where
  take-none : (n : ℕ) → take {A = X} n [] ≡ []
  take-none zero = refl
  take-none (suc n) = refl

  -- a list that was empty, filled up to n
  pub fills : (n : ℕ) (x : X) → take n [] ++ replicate (n - 0) x ≡ replicate n x
  fills n x =
      let same : n - 0 ≡ n = omega arith in
      ap (λ (ys : List X). ys ++ replicate (n - 0) x) (take-none n) ∙ ap (λ (m : ℕ). replicate m x) same
