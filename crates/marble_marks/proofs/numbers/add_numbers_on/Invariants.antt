use Rattle.std.proofs.Common.{◌≡◌, ◌≤◌, ◌+◌, ◌++◌, map, drop, length}
use Rattle.marble_marks.specs.Marks.{mark_in}
use Rattle.marble_marks.specs.Standings.{stand_in, begun}
use Rattle.marble_marks.specs.Numbers.{moves_seen}
use Rattle.marble_marks.proofs.numbers.add_numbers_on.Given as goal

abbrev pub invariant-loop-it : goal.invariant-loop-it
invariant-loop-it l = record {
  added : map mark_in l.marks.items ++ moves_seen l.row (stand_in l.standing) (drop l.it-index l.moves) ≡ map mark_in l.fn.marks.items ++ moves_seen l.row begun l.moves;
  few : l.standing.accepted + length l.standing.waiting.items ≤ l.it-index;
}
