use Rattle.std.proofs.Common.{◌<◌}
use Rattle.shared_core.proofs.slowest.Slowest.furthest_ahead.Given as goal

abbrev pub invariant-loop-i : goal.invariant-loop-i
invariant-loop-i l = l.furthest < 4
