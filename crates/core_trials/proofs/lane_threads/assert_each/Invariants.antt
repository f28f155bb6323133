use Rattle.std.proofs.Common.{vec_len}
use Rattle.core_trials.proofs.lane_threads.assert_each.Given as goal

abbrev pub decreases-loop-listening : goal.decreases-loop-listening
decreases-loop-listening g l = vec_len l.readers
