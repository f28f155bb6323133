use Rattle.std.proofs.Common.{vec_len}
use Rattle.script_engines.proofs.for_threads.ForThreadsShared.close.Given as goal

abbrev pub decreases-loop-emission : goal.decreases-loop-emission
decreases-loop-emission g l = vec_len l.emissions
