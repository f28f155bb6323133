use Rattle.std.proofs.Common.{◌≡◌, ◌++◌, map, drop}
use Rattle.marble_marks.specs.Marks.{mark_in}
use Rattle.marble_marks.specs.Numbers.{late_marks, all_late}
use Rattle.marble_marks.proofs.numbers.add_late.Given as goal

abbrev pub invariant-loop-value : goal.invariant-loop-value
invariant-loop-value l = record {
  added : map mark_in l.marks.items ++ late_marks l.column l.row l.first l.index l.count (drop l.value-index l.values) ≡ map mark_in l.fn.marks.items ++ all_late l.column l.row l.first l.values;
  index : l.index ≡ l.value-index;
}
