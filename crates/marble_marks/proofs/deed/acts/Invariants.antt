use Rattle.std.proofs.Common.{◌≡◌, ◌++◌, map, drop}
use Rattle.marble_marks.specs.AnsweredLines.{asked_in}
use Rattle.marble_marks.specs.Deeds.{done_in, done_by}
use Rattle.marble_marks.proofs.deed.acts.Given as goal

abbrev pub invariant-loop-answered : goal.invariant-loop-answered
invariant-loop-answered l = map done_in l.acts.items ++ map done_by (map asked_in (drop l.answered-index l.answered_lines)) ≡ map done_by (map asked_in l.answered_lines)
