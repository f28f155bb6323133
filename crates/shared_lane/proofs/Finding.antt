-- What `position` finds, said of the elements that a list has.
use Rattle.std.proofs.Common.{◌≡◌, ◌<◌, ℕ, List, Option, Some, None, length, slice_get, MatchOption, subst, arith}
use Rattle.std.specs.List.{AllWithin, HoldsAt}
use Rattle.std.proofs.lemmas.Option.{get_or_from_slice_get, slice_get_within}
use Rattle.circular_buffer.proofs.Places.{slice_get-some}

module _ {X : Type 0} (Yes No : X → Type 0) where
  -- as `IsFirst-from_position` ends
  abbrev pub FirstWithin : List X → Option ℕ → Type 0
  FirstWithin xs r = MatchOption r (AllWithin No xs 0 (length xs)) (λ i. (i < length xs) × HoldsAt Yes xs i × AllWithin No xs 0 i)

  no_before : (xs : List X) (n : ℕ) → AllWithin No xs 0 n → (k : ℕ) (x : X) → k < n → slice_get xs k ≡ Some x → No x
  no_before xs n h k x below at = subst No (get_or_from_slice_get xs k x x at) (h k x (omega arith) below)

  pub first_place : (xs : List X) (r : Option ℕ) → FirstWithin xs r → MatchOption r ((k : ℕ) (x : X) → slice_get xs k ≡ Some x → No x)
      (λ i. (i < length xs) × ((x : X) × ((slice_get xs i ≡ Some x) × Yes x × ((k : ℕ) (z : X) → k < i → slice_get xs k ≡ Some z → No z))))
  first_place xs None h = λ k x at. no_before xs (length xs) h k x (slice_get_within xs k x at) at
  first_place xs (Some i) h = let at = slice_get-some xs i h.0 in
      (h.0, (at.0, (at.1, subst Yes (get_or_from_slice_get xs i at.0 at.0 at.1) (h.1 at.0), no_before xs i h.2)))

  pub a_place : (xs : List X) (r : Option ℕ) → FirstWithin xs r → MatchOption r ((k : ℕ) (x : X) → slice_get xs k ≡ Some x → No x)
      (λ i. (i < length xs) × ((x : X) × ((slice_get xs i ≡ Some x) × Yes x)))
  a_place xs None h = first_place xs None h
  a_place xs (Some i) h = let found = first_place xs (Some i) h in (found.0, (found.1.0, (found.1.1.0, found.1.1.1)))
