use Rattle.std.proofs.Common.{take, IsTrue}
use Rattle.flow_merge.specs.Standing.{all_stopped}
use Rattle.flow_merge.proofs.flows.standing.cancel_all.Given as goal

abbrev pub invariant-loop-run : goal.invariant-loop-run
invariant-loop-run g l = IsTrue (all_stopped g.R.Run.stopped (take l.run-index l.run-items))
