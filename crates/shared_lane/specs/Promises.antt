-- What the law means for a reader.
use Rattle.std.specs.Prelude.{◌≡◌, ◌⊎◌, ℕ, ◌<◌, ◌≤◌, slice_index, true}
use mathlib.Core.Option.{some}
use lib.ListN.{get_elem?}
use Rattle.atomic_table.specs.Table.{State}
use Rattle.shared_lane.specs.declared.view.Shape.{Shape}
use Rattle.shared_lane.specs.declared.view.View.{View}
use Rattle.shared_lane.specs.Layout.{cell_word, cursor_word}
use Rattle.shared_lane.specs.Law.{Law, HasWord, cursor, closed, WasOpenedAgain}

-- between any two steps, each accepted value that an open cursor has still to read stands in its cell
abbrev pub UnreadValuesStay : Type 0
UnreadValuesStay = (key : Shape) (s : State (Unit {0}) View) (law : Law key s) (p n x : ℕ)
    → p < key.places → (law.place p).is_open ≡ true → cursor (law.place p) ≤ n → HasWord key.first law.log n x
    → slice_index s.words (cell_word key n) ≡ x

-- between any two steps, the cursor that a reader's seat has closed is closed, or its place was opened again
abbrev pub ClosedCursorsStay : Type 0
ClosedCursorsStay = (key : Shape) (s : State (Unit {0}) View) (law : Law key s) (j : ℕ) (v : View)
    → get_elem? s.views j ≡ some v → v.reading.quit ≡ true
    → (slice_index s.words (cursor_word v.reading.place) ≡ closed) ⊎ WasOpenedAgain v.reading (law.place v.reading.place)
