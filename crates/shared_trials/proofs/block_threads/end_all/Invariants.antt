use Rattle.std.proofs.Common.{vec_len}
use Rattle.shared_trials.proofs.block_threads.end_all.Given as goal

abbrev pub decreases-loop-side : goal.decreases-loop-side
decreases-loop-side g l = vec_len l.sides
