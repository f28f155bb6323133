use Rattle.std.proofs.Common.{vec_len}
use Rattle.core_trials.proofs.lane_body.end_all.Given as goal

abbrev pub decreases-loop-place : goal.decreases-loop-place
decreases-loop-place l = vec_len l.readers
