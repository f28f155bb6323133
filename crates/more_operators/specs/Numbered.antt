-- Values with their numbers.
use Rattle.std.specs.Prelude.{ℕ, ◌+◌, ◌%◌, ◌^◌, List, [], ◌∷◌, Option, Some}

-- each value with its number, from n on, modulo 2^64
abbrev pub numbered_from : {A : Type 0} → ℕ → List A → List (ℕ × A)
numbered_from n [] = []
numbered_from n (x ∷ xs) = (n, x) ∷ numbered_from ((n + 1) % 2 ^ 64) xs

-- what one value gives
abbrev pub numbers_one : {A : Type 0} → ℕ → A → Option (ℕ × A)
numbers_one n x = Some (n, x)
