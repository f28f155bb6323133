use Rattle.std.proofs.Common.{◌≡◌}
use Rattle.value_flows.specs.Emitting.{WaitedOn}
use Rattle.value_flows.proofs.flow.ValueFlow.wait.Given as goal

abbrev pub invariant-loop : goal.invariant-loop
invariant-loop g l = WaitedOn l.initial.self l.self × (l.waiting ≡ l.initial.waiting)
