-- How a hasher takes bytes.
use Rattle.std.specs.Prelude.{ℕ, zero, suc, ◌-◌, ◌/◌, List, length, take, drop}

-- how many times eight bytes stand before the last ones, of which there are eight at most
abbrev pub eights : List ℕ → ℕ
eights bytes = (length bytes - 1) / 8

-- the state after so many times eight bytes, and then the others
unfoldable pub in_eights : {S : Type 0} → (S → List ℕ → S) → ℕ → S → List ℕ → S
in_eights write zero state bytes = write state bytes
in_eights write (suc count) state bytes = in_eights write count (write state (take 8 bytes)) (drop 8 bytes)
