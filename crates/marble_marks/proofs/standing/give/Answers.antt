use Rattle.std.proofs.Common.{◌<◌, length, subst, arith}
use Rattle.std.proofs.lemmas.List.{get_or_default}
use Rattle.std.proofs.lemmas.List.Edits.{map_over_more}
use Rattle.marble_marks.specs.Standings.{given_on}
use Rattle.marble_marks.proofs.standing.give.Goals as goal

pub loop-seat-preserved : goal.loop-seat-preserved
loop-seat-preserved c =
    let one : c.loop-seat.seat-index < length c.args.seats.now.items = subst (λ items. c.loop-seat.seat-index < length items) c.deref_mut-seat-items.ensures.value c.loop-seat-test.true in
    let same : c.loop-seat.seat-index < length c.loop-seat.seat-items = omega (arith, c.loop-seat-test.true, c.loop-seat.auto.seat-items) in
    rw c.given_on.ensures
    (map_over_more (given_on c.args.row c.args.accepted) c.args.seats.now.items c.loop-seat.seat-items c.loop-seat.seat-index _ one c.loop-seat.invariant (get_or_default c.loop-seat.seat-items c.loop-seat.seat-index _ _ same))
