-- A ring after a value was put in at the back.
use Rattle.std.proofs.Common.{◌≡◌, ℕ, ◌-◌, ◌<◌, List, [], ◌∷◌, ◌++◌, length, drop, refl, arith, length-append}
use Rattle.circular_buffer.specs.Buffer.{keep_last}

module _ {T : Type 0} where
  drop_none : (n : ℕ) (xs : List T) → n ≡ 0 → drop n xs ≡ xs
  drop_none n xs is = rw is refl

  -- where there was room
  pub keep_room : (capacity : ℕ) (xs : List T) (x : T) → length xs < capacity → keep_last capacity (xs ++ x ∷ []) ≡ xs ++ x ∷ []
  keep_room capacity xs x room = drop_none (length (xs ++ x ∷ []) - capacity) (xs ++ x ∷ []) (omega (arith, length-append xs (x ∷ [])))

  drop_one : (n : ℕ) (xs : List T) (x : T) → n ≡ 1 → 0 < length xs → drop n (xs ++ x ∷ []) ≡ drop 1 xs ++ x ∷ []
  drop_one n [] x is some = absurd (omega arith)
  drop_one n (y ∷ xs) x is some = rw is refl

  -- where it was full
  pub keep_full : (capacity : ℕ) (xs : List T) (x : T) → 0 < capacity → length xs ≡ capacity → keep_last capacity (xs ++ x ∷ []) ≡ drop 1 xs ++ x ∷ []
  keep_full capacity xs x some full = drop_one (length (xs ++ x ∷ []) - capacity) xs x (omega (arith, length-append xs (x ∷ []))) (omega arith)
