use Rattle.std.proofs.Common.{vec_len}
use Rattle.core_trials.proofs.body_rows.flow_body.leave_all.Given as goal

abbrev pub decreases-loop-place : goal.decreases-loop-place
decreases-loop-place g l = vec_len l.emitters
