use Rattle.std.proofs.Common.{◌≡◌, ◌≢◌, None}
use Rattle.shared_flow.specs.Parties.{IsSameEmitter}
use Rattle.shared_flow.specs.Emitters.{Waited}
use Rattle.shared_flow.proofs.emitter.Emitter.finished.Given as goal

abbrev pub invariant-loop : goal.invariant-loop
invariant-loop g l = (l.self.ticket ≢ None) × (l.self.last ≡ l.initial.self.last) × IsSameEmitter l.initial.self l.self × Waited l.initial.self l.self
