-- The numbers of emissions, and where one that had to wait was accepted.
--
-- An emission's number is how many its flow had accepted before it. One that had to wait is accepted by the first line after which
-- each live subscription has a place for it: so by the one that made room, and never later.
use Rattle.std.specs.Prelude.{ℕ, ◌+◌, List, [], ◌∷◌, ◌++◌, map, length}
use Rattle.std.specs.List.{flat_map}
use Rattle.marble_marks.specs.declared.moves.Move.{Move}
use Rattle.marble_marks.specs.declared.standing.Step.{Step}
use Rattle.marble_marks.specs.declared.standing.Step.TheVariants as steps
use Rattle.marble_marks.specs.declared.mark.Kind.TheVariants as kinds
use Rattle.marble_marks.specs.declared.mark.Spot.{Spot}
use Rattle.marble_marks.specs.AnsweredLines.{Asked}
use Rattle.marble_marks.specs.Marks.{Seen, seen, names_in, row_of}
use Rattle.marble_marks.specs.Deeds.{Done, done_by}
use Rattle.marble_marks.specs.Standings.{Stand, begun, stepped, settled, accepted_later_values}
use Rattle.marble_marks.specs.Moves.{moves_on}

abbrev pub spot : ℕ → ℕ → Spot
spot index count = record { index = index; count = count }

abbrev pub number_mark : ℕ → ℕ → ℕ → Spot → Seen
number_mark column row number at = seen column row (kinds.Number number at) []

-- the number of a value that is accepted at once, where so many were before it
abbrev pub at_once : ℕ → ℕ → ℕ → Step → List Seen
at_once column row number steps.Accepted = number_mark column row number (spot 0 1) ∷ []
at_once column row number _ = []

-- the marks of these values, which one line accepts, each with its number, where so many were accepted before the first of so many,
-- and this many of those come before
abbrev pub late_marks : ℕ → ℕ → ℕ → ℕ → ℕ → List ℕ → List Seen
late_marks column row first index count [] = []
late_marks column row first index count (value ∷ values) =
    seen column row (kinds.AcceptedLater value (spot index count)) [] ∷ number_mark column row (first + index) (spot index count)
    ∷ late_marks column row first (index + 1) count values

abbrev pub all_late : ℕ → ℕ → ℕ → List ℕ → List Seen
all_late column row first values = late_marks column row first 0 (length values) values

-- what a line shows of a flow that stands so before it
abbrev pub move_marks : ℕ → Stand → Move → List Seen
move_marks row stand it =
    let after = stepped it.step stand in
    at_once it.column row stand.accepted it.step ++ all_late it.column row after.accepted (accepted_later_values after)

-- how the flow stands after a line
abbrev pub moved : Stand → Move → Stand
moved stand it = settled (stepped it.step stand)

abbrev pub moves_seen : ℕ → Stand → List Move → List Seen
moves_seen row stand [] = []
moves_seen row stand (it ∷ rest) = move_marks row stand it ++ moves_seen row (moved stand it) rest

-- the marks of the emissions on the flow of this name
abbrev pub numbered_on : List (List ℕ) → List Done → List ℕ → List Seen
numbered_on names all name = moves_seen (row_of names name) begun (moves_on names all (row_of names name) all)

abbrev pub numbered_in : List (List ℕ) → List Done → List Seen
numbered_in names all = flat_map (numbered_on names all) names

-- THE MARKS OF NUMBERS, and of emissions that had to wait, in these lines
abbrev pub numbers_of : List Asked → List Seen
numbers_of asked = numbered_in (names_in asked) (map done_by asked)
