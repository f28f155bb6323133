-- Where the words of a lane lie in its table.
use Rattle.std.specs.Prelude.{ℕ, ◌+◌, ◌*◌, ◌%◌}
use Rattle.shared_lane.specs.declared.words.TheConstants.{DISTANCE}
use Rattle.shared_lane.specs.declared.view.Shape.{Shape}

-- the number of the next emission that is accepted
abbrev pub tail_word : ℕ
tail_word = 0

-- the cursor of the place p
unfoldable pub cursor_word : ℕ → ℕ
cursor_word p = DISTANCE + DISTANCE * p

-- the index of the number n's cell among the cells
unfoldable pub cell_index : Shape → ℕ → ℕ
cell_index key n = n % key.cells

-- the cell of the number n
unfoldable pub cell_word : Shape → ℕ → ℕ
cell_word key n = DISTANCE + DISTANCE * key.places + cell_index key n

-- how many words there are
unfoldable pub width : Shape → ℕ
width key = DISTANCE + DISTANCE * key.places + key.cells
