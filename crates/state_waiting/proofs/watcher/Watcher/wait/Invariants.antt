use Rattle.std.proofs.Common.{◌≡◌}
use Rattle.state_waiting.specs.Waits.{MissedOn}
use Rattle.state_waiting.proofs.watcher.Watcher.wait.Given as goal

abbrev pub invariant-loop : goal.invariant-loop
invariant-loop g l = (l.self.flow ≡ l.initial.self.flow) × MissedOn l.initial.self.view l.self.view
