use Rattle.std.proofs.Common.{◌≡◌, Some, take, vec_len}
use Rattle.std.specs.Prelude.{vec_capacity}
use Rattle.more_merges.specs.Row.{whole}
use Rattle.more_merges.proofs.flows.row.list_all.Given as goal

abbrev pub invariant-loop-value : goal.invariant-loop-value
invariant-loop-value g l = record {
  whole : whole (take l.value-index l.latest) ≡ Some l.values.items;
  many : vec_len l.values ≡ l.value-index;
  capacity : vec_capacity l.values ≡ vec_capacity l.initial.values;
}
