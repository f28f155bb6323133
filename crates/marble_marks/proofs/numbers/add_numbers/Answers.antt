use Rattle.std.proofs.Common.{◌∙◌, ap}
use Rattle.std.specs.Prelude.{map}
use Rattle.marble_marks.specs.Deeds.{done_in}
use Rattle.marble_marks.specs.Moves.{on_row}
use Rattle.marble_marks.proofs.Placing.{row_later, numbers_more}
use Rattle.marble_marks.proofs.numbers.add_numbers.Goals as goal

pub loop-name-preserved : goal.loop-name-preserved
loop-name-preserved c =
    let known = c.args.told.now.rows.now.names.now in
    let all = map done_in c.args.told.now.acts.now in
    let i = c.loop-name.name-index in
    record {
      added = numbers_more known i _ all (on_row c.deref.result.now) _ _ _ c.loop-name-test.true c.loop-name.invariant.rows
          (λ row low. ap (λ by_row. on_row by_row row) c.deref.ensures.value ∙ c.in_ok-by_row.ensures row low) c.in_ok-add_numbers_of.ensures c.loop-name.invariant.added;
      rows = row_later known i c.loop-name-test.true c.loop-name.invariant.rows;
    }
