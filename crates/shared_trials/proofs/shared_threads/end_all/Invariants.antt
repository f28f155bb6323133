use Rattle.std.proofs.Common.{vec_len}
use Rattle.shared_trials.proofs.shared_threads.end_all.Given as goal

abbrev pub decreases-loop-party : goal.decreases-loop-party
decreases-loop-party g l = vec_len l.parties
