use Rattle.std.proofs.Common.{◌≡◌, drop}
use Rattle.marble_pictures.specs.Widths.{span_from, span_of}
use Rattle.marble_pictures.proofs.line.Span.of.Given as goal

abbrev pub invariant-loop-mark : goal.invariant-loop-mark
invariant-loop-mark l = span_from l.row l.span (drop l.mark-index l.marks) ≡ span_of l.row l.marks
