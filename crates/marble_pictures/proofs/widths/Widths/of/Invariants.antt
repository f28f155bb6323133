use Rattle.std.proofs.Common.{◌≡◌, drop}
use Rattle.marble_pictures.specs.Widths.{wider_by, widths_of}
use Rattle.marble_pictures.proofs.widths.Widths.of.Given as goal

abbrev pub invariant-loop-mark : goal.invariant-loop-mark
invariant-loop-mark l = wider_by l.widths (drop l.mark-index l.marks) ≡ widths_of l.marks
