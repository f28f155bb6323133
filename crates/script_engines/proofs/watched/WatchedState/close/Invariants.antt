use Rattle.script_engines.specs.Watching.{IsWatch}
use Rattle.script_engines.proofs.watched.WatchedState.close.Given as goal

abbrev pub invariant-loop-place : goal.invariant-loop-place
invariant-loop-place l = IsWatch l.seat l.collectors.items

abbrev pub decreases-loop-place : goal.decreases-loop-place
decreases-loop-place l = goal.left-loop-place l
