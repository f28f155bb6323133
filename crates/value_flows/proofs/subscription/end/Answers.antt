use Rattle.std.proofs.Common.{◌≡◌, subst}
use Rattle.value_flows.specs.declared.round.Round.TheVariants as round
use Rattle.value_flows.specs.Calls.{giving}
use Rattle.value_flows.proofs.Calling.{held_is}
use Rattle.value_flows.proofs.Passing.{ends}
use Rattle.value_flows.proofs.subscription.end.Goals as goal

pub put-requires : goal.put-requires
put-requires g c = record {
  call = (c.enter-guarded.result.state, held_is c.args.lock.now c.enter-guarded.result.state c.enter-guarded.new.lock c.enter-guarded.ensures.holds, c.move_to.ensures);
}

pub returns : goal.returns
returns g c =
    let given = subst (λ r. c.put.new.self ≡ giving (round.End c.args.place) r c.enter-guarded.new.lock) c.move_to.ensures c.put.ensures.given in
    ends c.args.lock.now c.enter-guarded.new.lock c.put.new.self c.enter-guarded.result.state c.args.place c.requires.0 c.requires.1 c.enter-guarded.ensures.holds given
