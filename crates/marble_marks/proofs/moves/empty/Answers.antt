use Rattle.std.proofs.Common.{rules}
use Rattle.marble_marks.proofs.Placing.{none_put}
use Rattle.marble_marks.proofs.moves.empty.Goals as goal

pub loop-alloc-preserved : goal.loop-alloc-preserved
loop-alloc-preserved c = record {
  few = search rules;
  empty = λ row. rw c.in_ok-push.ensures.items (none_put c.loop-alloc.by_row.items c.new.result c.loop-alloc.invariant.empty c.new.ensures.items row);
}
