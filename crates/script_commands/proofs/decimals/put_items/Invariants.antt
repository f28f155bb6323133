use Rattle.std.proofs.Common.{◌≡◌, ◌≤◌, ◌*◌, length, drop, flat_map}
use Rattle.script_commands.specs.Listings.{next_item}
use Rattle.script_commands.proofs.decimals.put_items.Given as goal

abbrev pub decreases-loop-left : goal.decreases-loop-left
decreases-loop-left l = l.left

abbrev pub invariant-loop-left : goal.invariant-loop-left
invariant-loop-left l = record {
  left : l.left ≤ length l.values;
  room : 21 * l.left ≤ l.start;
  within : l.start ≤ 1344;
  size : length l.bytes ≡ 1344;
  items : drop l.start l.bytes ≡ flat_map next_item (drop l.left l.values);
}
