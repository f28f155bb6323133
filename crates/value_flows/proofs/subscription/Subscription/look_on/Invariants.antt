use Rattle.value_flows.specs.Receiving.{FoundNoneOn}
use Rattle.value_flows.proofs.subscription.Subscription.look_on.Given as goal

abbrev pub invariant-loop : goal.invariant-loop
invariant-loop g l = FoundNoneOn l.initial.self l.self
