use Rattle.std.proofs.Common.{◌≡◌}
use Rattle.state_waiting.specs.Waits.{MissedOn}
use Rattle.state_waiting.proofs.watcher.Watcher.look_on.Given as goal

abbrev pub invariant-loop : goal.invariant-loop
invariant-loop g l =
    (l.self-inside.collector.flow ≡ l.initial.self-inside.collector.flow)
    × MissedOn l.initial.self-inside.collector.view l.self-inside.collector.view
