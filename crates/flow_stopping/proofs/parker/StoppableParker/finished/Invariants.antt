use Rattle.std.proofs.Common.{◌≡◌, ◌≢◌, None}
use Rattle.shared_flow.specs.Parties.{IsSameEmitter}
use Rattle.shared_flow.specs.Emitters.{Waited}
use Rattle.flow_stopping.proofs.parker.StoppableParker.finished.Given as goal

abbrev pub invariant-loop : goal.invariant-loop
invariant-loop g l =
    (l.emitter.ticket ≢ None) × (l.emitter.last ≡ l.initial.emitter.last) × IsSameEmitter l.initial.emitter l.emitter
    × Waited l.initial.emitter l.emitter
