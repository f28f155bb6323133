-- Lists: the last values of one, and runs of numbers.
use Rattle.std.proofs.Common.{◌≡◌, ℕ, zero, suc, ◌+◌, ◌-◌, ◌<◌, ◌≤◌, min, List, [], ◌∷◌, ◌++◌, length, drop, set, replicate, slice_get, get_or, Option, Some, None, true, refl, sym, ap, ◌∙◌, subst, arith, length-append, length-drop, add-zero, suc-add, zero-add}
use Rattle.std.specs.Prelude.{is_none}
use Rattle.std.specs.List.{All, position, range_with_len}
use Rattle.std.proofs.lemmas.List.Quantifiers.{position-Some}
use Rattle.std.proofs.lemmas.List.Elements.{All-cons, All-get_or, All-nil}
use Rattle.std.proofs.lemmas.Option.{get_or_from_slice_get, slice_get-get_or, slice_get_within}
use Rattle.std.proofs.lemmas.List.{drop-append-le, drop-drop}
use Rattle.std.proofs.Math.Seq.{drop-append_seam}
use Rattle.circular_buffer.specs.Buffer.{keep_last}

pub range-append : (a m n : ℕ) → range_with_len a (m + n) ≡ range_with_len a m ++ range_with_len (a + m) n
range-append a zero n = rw (zero-add, add-zero) refl
range-append a (suc m) n = rw (suc-add) (ap (λ r. a ∷ r) (range-append (a + 1) m n ∙ ap (λ b. range_with_len (a + 1) m ++ range_with_len b n) (omega arith)))

pub length-range : (a n : ℕ) → length (range_with_len a n) ≡ n
length-range a zero = refl
length-range a (suc n) = ap suc (length-range (a + 1) n)

module _ {X : Type 0} where
  -- a value of what is left of a list
  pub got_dropped : (n i : ℕ) (xs : List X) → slice_get (drop n xs) i ≡ slice_get xs (n + i)
  got_dropped zero i xs = ap (slice_get xs) (omega arith)
  got_dropped (suc n) i [] = refl
  got_dropped (suc n) i (x ∷ xs) =
      let next : suc (n + i) ≡ suc n + i = omega arith in
      got_dropped n i xs ∙ ap (slice_get (x ∷ xs)) next

  pub is_there : (xs : List X) (i : ℕ) → i < length xs → (x : X) × (slice_get xs i ≡ Some x)
  is_there [] i less = absurd (omega arith)
  is_there (x ∷ xs) zero less = (x, refl)
  is_there (x ∷ xs) (suc i) less = is_there xs i (omega arith)

  -- what holds of each is so of one
  pub holds_at : (P : X → Type 0) (xs : List X) (i : ℕ) (x : X) → slice_get xs i ≡ Some x → All P xs → P x
  holds_at P xs i x got all =
      let less = slice_get_within xs i x got in
      subst P (get_or_from_slice_get xs i x x got) (All-get_or P xs i x less all)

  pub all_alike : (P : X → Type 0) (n : ℕ) (x : X) → P x → All P (replicate n x)
  all_alike P zero x holds = All-nil P
  all_alike P (suc n) x holds = All-cons P x (replicate n x) holds (all_alike P n x holds)

  -- there is nothing to set past the end
  pub set_past : (xs : List X) (i : ℕ) (x : X) → length xs ≤ i → set xs i x ≡ xs
  set_past [] i x past = refl
  set_past (y ∷ xs) zero x past = absurd (omega arith)
  set_past (y ∷ xs) (suc i) x past = ap (λ (l : List X). y ∷ l) (set_past xs i x (omega arith))

  -- no more than there are
  pub length-kept : (n : ℕ) (xs : List X) → length (keep_last n xs) ≡ min n (length xs)
  length-kept n xs = omega (arith, length-drop (length xs - n) xs)

  kept-all : (n : ℕ) (xs : List X) → length xs ≤ n → keep_last n xs ≡ xs
  kept-all n xs all = let none : length xs - n ≡ 0 = omega (arith, all) in ap (λ k. drop k xs) none

  -- the newest of the last ones
  pub newest : (n : ℕ) (xs : List X) (x : X) → 0 < n → keep_last 1 (keep_last n (xs ++ x ∷ [])) ≡ x ∷ []
  newest n xs x some =
      let count = length-append xs (x ∷ []) in
      let from = length (xs ++ x ∷ []) - n in
      let left : keep_last n (xs ++ x ∷ []) ≡ drop from xs ++ x ∷ [] = drop-append-le from xs (x ∷ []) (omega (arith, count, some)) in
      let more = length-append (drop from xs) (x ∷ []) in
      let all_but_one : length (drop from xs ++ x ∷ []) - 1 ≡ length (drop from xs) = omega (arith, more) in
      ap (keep_last 1) left ∙ ap (λ k. drop k (drop from xs ++ x ∷ [])) all_but_one ∙ drop-append_seam (drop from xs) (x ∷ [])

  -- the last ones of these, where one more came
  pub kept-push : (n : ℕ) (xs : List X) (x : X) → 0 < n → keep_last n (keep_last n xs ++ x ∷ []) ≡ keep_last n (xs ++ x ∷ [])
  kept-push n xs x some =
      let from = length xs - n in
      let count = length-append xs (x ∷ []) in
      let kept = length-append (drop from xs) (x ∷ []) in
      let left = length-drop from xs in
      let more = length (drop from xs ++ x ∷ []) - n in
      let sum : from + more ≡ length (xs ++ x ∷ []) - n = omega (arith, count, kept, left, some) in
      let whole : drop from xs ++ x ∷ [] ≡ drop from (xs ++ x ∷ []) = sym (drop-append-le from xs (x ∷ []) (omega arith)) in
      ap (drop more) whole ∙ drop-drop more from (xs ++ x ∷ []) ∙ ap (λ k. drop k (xs ++ x ∷ [])) sum

is_nothing : {X : Type 0} (o : Option X) → is_none o ≡ true → o ≡ None
is_nothing None is = refl
is_nothing (Some x) is = absurd (cc)

-- the place that was found first is free
pub free_is : {X : Type 0} (xs : List (Option X)) (i : ℕ) → position is_none xs ≡ Some i → slice_get xs i ≡ Some None
free_is xs i is =
    let found = position-Some is_none xs i None is in
    slice_get-get_or xs i None found.0 ∙ ap Some (is_nothing (get_or xs i None) found.1)
