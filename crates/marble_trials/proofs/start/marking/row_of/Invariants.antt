use Rattle.std.proofs.Common.{◌≡◌, ◌+◌}
use Rattle.marble_trials.proofs.start.marking.row_of.Given as goal

abbrev pub invariant-loop-known : goal.invariant-loop-known
invariant-loop-known l = l.row ≡ l.known-index + 1
