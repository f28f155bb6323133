use Rattle.std.proofs.Common.{◌≡◌, ◌≤◌, ◌-◌, ℕ, [], length}
use Rattle.marble_marks.specs.Moves.{on_row}
use Rattle.marble_marks.proofs.moves.empty.Given as goal

abbrev pub invariant-loop-alloc : goal.invariant-loop-alloc
invariant-loop-alloc l = record {
  few : length l.by_row.items ≤ l.rows;
  empty : (row : ℕ) → on_row l.by_row.items row ≡ [];
}

abbrev pub decreases-loop-alloc : goal.decreases-loop-alloc
decreases-loop-alloc l = l.rows - length l.by_row.items
