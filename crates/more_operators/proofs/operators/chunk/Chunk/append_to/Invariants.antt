use Rattle.std.proofs.Common.{◌≡◌, ◌++◌, ◌+◌, ◌≤◌, take, length}
use Rattle.std.specs.Prelude.{vec_capacity}
use Rattle.more_operators.proofs.operators.chunk.Chunk.append_to.Given as goal

abbrev pub invariant-loop-index : goal.invariant-loop-index
invariant-loop-index g l = record {
  values : l.items.items ≡ l.fn.items.items ++ take l.index l.self;
  room : length l.fn.items.items + length l.self ≤ vec_capacity l.items;
}
