-- The rows of guests, by the lines by which they join.
use Rattle.std.specs.Prelude.{ℕ, List}
use Rattle.marble_marks.specs.Deeds.{Doing, Done}
use Rattle.marble_marks.specs.Deeds as deeds
use Rattle.marble_marks.specs.Marks.{row_of}

-- the row of the guest that a line lets join, and else 0
abbrev pub row_joined : List (List ℕ) → Doing → ℕ
row_joined names (deeds.joins host guest prelude) = row_of names guest
row_joined names _ = 0

abbrev pub row_of_guest : List (List ℕ) → Done → ℕ
row_of_guest names act = row_joined names act.doing
