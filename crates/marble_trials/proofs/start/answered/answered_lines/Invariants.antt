use Rattle.std.proofs.Common.{◌≤◌, ◌+◌, length}
use Rattle.marble_trials.proofs.start.answered.answered_lines.Given as goal

abbrev pub invariant-loop-line : goal.invariant-loop-line
invariant-loop-line l = l.number + length l.lines.rest.now ≤ 1048576

abbrev pub decreases-loop-line : goal.decreases-loop-line
decreases-loop-line l = length l.lines.rest.now
