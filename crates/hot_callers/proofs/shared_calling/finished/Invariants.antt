use Rattle.std.proofs.Common.{◌≡◌}
use Rattle.shared_flow.specs.Parties.{IsSameEmitter}
use Rattle.hot_callers.proofs.shared_calling.finished.Given as goal

abbrev pub invariant-loop : goal.invariant-loop
invariant-loop g l = IsSameEmitter l.initial.emitter l.emitter × (l.emitter.ticket ≡ l.initial.emitter.ticket) × (l.emitter.last ≡ l.initial.emitter.last)
