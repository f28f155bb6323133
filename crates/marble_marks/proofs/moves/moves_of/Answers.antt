use Rattle.std.proofs.Common.{◌∙◌}
use Rattle.marble_marks.proofs.Placing.{on_row_at, on_row_past}
use Rattle.marble_marks.proofs.moves.moves_of.Goals as goal

pub returns-in-Some : goal.returns-in-Some
returns-in-Some c =
    let found = c.in-Some.ensures.lookup in
    c.as_slice.ensures.value ∙ on_row_at c.args.by_row.now c.args.row c.in-Some.moves.now found.1 found.3.0

pub returns-in-None : goal.returns-in-None
returns-in-None c = on_row_past c.args.by_row.now c.args.row c.in-None.ensures.lookup.3
