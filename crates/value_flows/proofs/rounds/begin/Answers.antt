use Rattle.std.proofs.Common.{◌≡◌, Some, subst, sym}
use Rattle.value_flows.specs.declared.round.Round.TheVariants as round
use Rattle.value_flows.specs.Calls.{giving}
use Rattle.value_flows.proofs.Calling.{finds_full, held_is, opens}
use Rattle.value_flows.proofs.Lists.{free_is}
use Rattle.value_flows.proofs.rounds.begin.Goals as goal

pub put-requires : goal.put-requires
put-requires g c =
    let ring = c.enter-guarded.result.state in record {
      call = (
        ring,
        held_is c.args.lock.now ring c.enter-guarded.new.lock c.enter-guarded.ensures.holds,
        (c.move_to.ensures, c.cache_start-start.ensures, free_is ring.cursors c.in-Some.place (sym c.in-Some.ensures)),
      );
    }

pub leave-requires : goal.leave-requires
leave-requires g c = held_is c.args.lock.now c.enter-guarded.result.state c.enter-guarded.new.lock c.enter-guarded.ensures.holds

pub returns-in-Some-clause-begun : goal.returns-in-Some-clause-begun
returns-in-Some-clause-begun g c =
    let ring = c.enter-guarded.result.state in
    let place = c.in-Some.place in
    let start = c.cache_start-start.result in
    let given = subst (λ r. c.put.new.self ≡ giving (round.Begin place start) r c.enter-guarded.new.lock) c.move_to.ensures c.put.ensures.given in
    opens c.args.lock.now ring c.enter-guarded.new.lock c.put.new.self place start c.cache_start-start.ensures (free_is ring.cursors place (sym c.in-Some.ensures)) c.enter-guarded.ensures.holds given

pub returns-in-None-clause-full : goal.returns-in-None-clause-full
returns-in-None-clause-full g c = finds_full c.args.lock.now c.enter-guarded.result.state c.enter-guarded.new.lock c.leave.new.lock (sym c.in-None.ensures) c.enter-guarded.ensures.holds c.leave.ensures
