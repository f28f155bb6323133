-- Read this first: the history of a state, and the lists that are picked from it.
use Rattle.std.specs.Prelude.{◌≡◌, ◌≢◌, ℕ, ◌+◌, ◌<◌, List, [], ◌∷◌, ◌++◌, length, Option, Some, None}
use Rattle.std.specs.List.{last_or}
use mathlib.Core.Option.{some}
use lib.ListN.{get_elem?}

module _ {T : Type 0} where
  abbrev pub last_of : List T → Option T
  last_of = last_or None

  -- the history after x was written: x joins it where it differs from the value at that moment
  abbrev pub Writes : List T → T → List T → Type 0
  Writes before x after = (last_of before ≡ Some x → after ≡ before) × (last_of before ≢ Some x → after ≡ before ++ x ∷ [])

  -- the history of a state: its first value, then each written value that differed from the value at that moment
  pub data IsHistory : List T → Type 0 where
    made : (x : T) → IsHistory (x ∷ [])
    written : (before : List T) (x : T) (after : List T) → IsHistory before → Writes before x after → IsHistory after

  -- a subsequence of the history without equal neighbours: the list stands at strictly rising indexes of the history
  pub record Picks (xs history : List T) : Type 0 where
    pub index_of : ℕ → ℕ
    pub rising : (i j : ℕ) → i < j → j < length xs → index_of i < index_of j
    pub stands : (i : ℕ) (x : T) → get_elem? xs i ≡ some x → get_elem? history (index_of i) ≡ some x
    pub no_equal_neighbours : (i : ℕ) (x y : T) → get_elem? xs i ≡ some x → get_elem? xs (i + 1) ≡ some y → x ≢ y
