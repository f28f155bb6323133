use Rattle.std.proofs.Common.{take, IsTrue}
use Rattle.flow_merge.specs.Asking.{standing_stopped}
use Rattle.more_merges.specs.Joins.{each_is}
use Rattle.more_merges.proofs.flows.sides.cancel_sides.Given as goal

abbrev pub invariant-loop-side : goal.invariant-loop-side
invariant-loop-side g l = IsTrue (each_is (standing_stopped g.R.Run.stopped) (take l.side-index l.side-items))
