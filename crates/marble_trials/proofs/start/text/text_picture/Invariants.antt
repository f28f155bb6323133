use Rattle.std.proofs.Common.{◌+◌, ◌-◌, ◌<◌}
use Rattle.marble_trials.proofs.start.text.text_picture.Given as goal

abbrev pub invariant-loop-first : goal.invariant-loop-first
invariant-loop-first l = 0 < l.columns

abbrev pub decreases-loop-first : goal.decreases-loop-first
decreases-loop-first l = l.last + 1 - l.first
