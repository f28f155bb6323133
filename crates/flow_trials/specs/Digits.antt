-- Values as the digits of a number.
use Rattle.std.specs.Prelude.{ℕ, ◌+◌, ◌*◌, ◌%◌, ◌^◌, List, [], ◌∷◌, length, Option, Some, None, slice_get}

-- three values as its digits, and 0 of any other number of values
abbrev pub digits : List ℕ → ℕ
digits [] = 0
digits (x ∷ []) = 0
digits (x ∷ y ∷ []) = 0
digits (x ∷ y ∷ z ∷ []) = (((x * 100) % 2 ^ 64 + (y * 10) % 2 ^ 64) % 2 ^ 64 + z) % 2 ^ 64
digits (w ∷ x ∷ y ∷ z ∷ zs) = 0

-- a number and one more digit, which is 0 where there is none
abbrev pub next_digit : ℕ → Option ℕ → ℕ
next_digit number None = ((number * 10) % 2 ^ 64 + 0) % 2 ^ 64
next_digit number (Some digit) = ((number * 10) % 2 ^ 64 + digit) % 2 ^ 64

-- how many values there are, and the first three behind that
abbrev pub mark_of : List ℕ → ℕ
mark_of xs = next_digit (next_digit (next_digit (length xs) (slice_get xs 0)) (slice_get xs 1)) (slice_get xs 2)
