-- What comes to each flow, by its row.
use Rattle.std.specs.Prelude.{ℕ, zero, suc, ◌==◌, List, [], ◌∷◌, ◌++◌, Option, Some, None, Vec, bytes_eq, Bool, true, false, if◌then◌else◌}
use Rattle.std.specs.List.{flat_map}
use Rattle.std.specs.Option.{option_map}
use Rattle.marble_marks.specs.declared.moves.Move.{Move}
use Rattle.marble_marks.specs.declared.standing.Step.{Step}
use Rattle.marble_marks.specs.declared.standing.Step.TheVariants as steps
use Rattle.marble_marks.specs.Deeds.{Doing, Done}
use Rattle.marble_marks.specs.Deeds as deeds
use Rattle.marble_marks.specs.Marks.{row_of}
use Rattle.marble_marks.specs.Waiting.{is_removed}

-- ---- the flows of guests

-- whether this is a guest of this name that joins
abbrev pub joins_as : List ℕ → Doing → Bool
joins_as guest (deeds.joins host name prelude) = bytes_eq name guest
joins_as guest _ = false

-- the row of the flow or state that a line lets a guest join, and else 0
abbrev pub row_met : List (List ℕ) → Doing → ℕ
row_met names (deeds.joins host name prelude) = row_of names host
row_met names _ = 0

-- the row of the flow or state that a guest joins first in these lines
abbrev pub host_row : List (List ℕ) → List ℕ → List Done → Option ℕ
host_row names guest [] = None
host_row names guest (act ∷ acts) = if joins_as guest act.doing then Some (row_met names act.doing) else host_row names guest acts

-- ---- moves

-- the row of the flow that a line does something to, where these are all the lines
abbrev pub flow_row : List (List ℕ) → List Done → Doing → Option ℕ
flow_row names all (deeds.opens host replay extra) = Some (row_of names host)
flow_row names all (deeds.accepts host value) = Some (row_of names host)
flow_row names all (deeds.waits host ticket value) = Some (row_of names host)
flow_row names all (deeds.joins host guest prelude) = Some (row_of names host)
flow_row names all (deeds.takes guest) = host_row names guest all
flow_row names all (deeds.ends guest) = host_row names guest all
flow_row names all (deeds.empties host) = Some (row_of names host)
flow_row names all _ = None

-- what a line does to that flow, where these are all the lines: an emission that is taken back later is never accepted
abbrev pub step_of : List (List ℕ) → List Done → Doing → Option Step
step_of names all (deeds.opens host replay extra) = Some (steps.Opened replay extra)
step_of names all (deeds.accepts host value) = Some steps.Accepted
step_of names all (deeds.waits host ticket value) = if is_removed ticket all then None else Some (steps.Waits value)
step_of names all (deeds.joins host guest prelude) = Some (steps.Joined (row_of names guest) prelude)
step_of names all (deeds.takes guest) = Some (steps.Took (row_of names guest))
step_of names all (deeds.ends guest) = Some (steps.Ended (row_of names guest))
step_of names all (deeds.empties host) = Some steps.Emptied
step_of names all _ = None

abbrev pub move : ℕ → Step → Move
move column step = record { column = column; step = step }

abbrev pub move_of : List (List ℕ) → List Done → Done → Option Move
move_of names all act = option_map (move act.column) (step_of names all act.doing)

-- ---- by rows

-- what stands on a row, once this came to one
abbrev pub put_at : List Move → ℕ → Move → ℕ → List Move
put_at held row it other = if row == other then held ++ it ∷ [] else held

abbrev pub if_row : ℕ → ℕ → Option Move → List Move
if_row row other None = []
if_row row other (Some it) = if row == other then it ∷ [] else []

abbrev pub on_flow : ℕ → Option ℕ → Option Move → List Move
on_flow row None it = []
on_flow row (Some flow) it = if_row flow row it

-- what a line does to the flow with this row
abbrev pub row_moves : List (List ℕ) → List Done → ℕ → Done → List Move
row_moves names all row act = on_flow row (flow_row names all act.doing) (move_of names all act)

-- WHAT COMES TO THE FLOW WITH THIS ROW in these lines
abbrev pub moves_on : List (List ℕ) → List Done → ℕ → List Done → List Move
moves_on names all row acts = flat_map (row_moves names all row) acts

-- what lists by rows have on this row
abbrev pub on_row : {A : Type 0} → List (Vec Move A) → ℕ → List Move
on_row [] row = []
on_row (held ∷ rest) zero = held.items
on_row (held ∷ rest) (suc row) = on_row rest row

-- whether a name has a row
abbrev pub has_row : List (List ℕ) → List ℕ → Bool
has_row [] name = false
has_row (known ∷ names) name = if bytes_eq known name then true else has_row names name
