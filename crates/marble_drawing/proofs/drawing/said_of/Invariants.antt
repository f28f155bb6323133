use Rattle.std.proofs.Common.{◌≡◌, map}
use Rattle.marble_drawing.specs.Pictures.{saying_of}
use Rattle.marble_marks.specs.AnsweredLines.{saying_in}
use Rattle.marble_drawing.proofs.drawing.said_of.Given as goal

abbrev pub invariant-loop-answered : goal.invariant-loop-answered
invariant-loop-answered l =
    (goal.iterator-loop-answered).can_next l.answered-iterator × (goal.iterator-loop-answered).is_finite l.answered-iterator
    × (map saying_in l.said.items ≡ map saying_of l.yielded)
