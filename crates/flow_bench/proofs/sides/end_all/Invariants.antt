use Rattle.std.proofs.Common.{vec_len}
use Rattle.flow_bench.proofs.sides.end_all.Given as goal

abbrev pub decreases-loop-reader : goal.decreases-loop-reader
decreases-loop-reader g l = vec_len l.readers
