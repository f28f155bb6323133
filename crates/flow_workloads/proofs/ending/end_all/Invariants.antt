use Rattle.std.proofs.Common.{vec_len}
use Rattle.flow_workloads.proofs.ending.end_all.Given as goal

abbrev pub decreases-loop-one : goal.decreases-loop-one
decreases-loop-one g l = vec_len l.all
