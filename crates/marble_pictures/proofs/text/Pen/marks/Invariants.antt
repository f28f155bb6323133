use Rattle.std.proofs.Common.{length}
use Rattle.marble_pictures.proofs.text.Pen.marks.Given as goal

abbrev pub decreases-loop-left : goal.decreases-loop-left
decreases-loop-left l = length l.left
