use Rattle.std.proofs.Common.{◌≡◌, subst}
use Rattle.value_flows.specs.Calls.{giving}
use Rattle.value_flows.specs.declared.round.Round.TheVariants as round
use Rattle.value_flows.proofs.Calling.{forgets, held_is}
use Rattle.value_flows.proofs.flow.ValueFlow.reset_replay.Goals as goal

pub put-requires : goal.put-requires
put-requires g c = record {
  call = (c.enter-guarded.result.state, held_is c.self.inside.lock c.enter-guarded.result.state c.enter-guarded.new.lock c.enter-guarded.ensures.holds, c.forget.ensures);
}

pub returns : goal.returns
returns g c =
    let given = subst (λ r. c.put.new.self ≡ giving round.Forget r c.enter-guarded.new.lock) c.forget.ensures c.put.ensures.given in
    forgets c.self.inside.lock c.args.self.now c.self.view_is c.enter-guarded.result.state c.enter-guarded.new.lock c.put.new.self c.enter-guarded.ensures.holds given
