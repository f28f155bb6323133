use Rattle.std.proofs.Common.{◌∙◌, arith}
use Rattle.marble_marks.specs.Deeds.{done_in}
use Rattle.std.specs.Prelude.{map}
use Rattle.marble_marks.proofs.Placing.{put_more, met_here, met_later}
use Rattle.marble_marks.proofs.moves.moves_by_row.Goals as goal

pub loop-act-preserved : goal.loop-act-preserved
loop-act-preserved c =
    let acts = c.args.told.now.acts.now in
    let all = map done_in acts in
    let i = c.loop-act.act-index in
    let names = map (λ known. known.now) c.args.told.now.rows.now.names.now in
    let met = met_here all acts i _ c.loop-act-test.true c.loop-act.invariant.met in
    record {
      rows = c.in_ok-put_act.ensures.length ∙ c.loop-act.invariant.rows;
      put = λ row low.
          let count = c.loop-act.invariant.rows in
          put_more names all row acts i _ _ _ _ c.loop-act-test.true (c.in_ok-put_act.ensures.put met row (omega arith)) (c.loop-act.invariant.put row low);
      met = met_later all acts i c.loop-act-test.true c.loop-act.invariant.met;
    }
