use Rattle.value_states.specs.Watching.{MissedOn}
use Rattle.value_states.proofs.watcher.Watcher.wait_within.Given as goal

abbrev pub invariant-loop : goal.invariant-loop
invariant-loop g l = MissedOn l.initial.self l.self
