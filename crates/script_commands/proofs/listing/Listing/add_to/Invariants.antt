use Rattle.std.proofs.Common.{◌≡◌, ◌++◌, length, flat_map}
use Rattle.script_commands.specs.Listings.{next_item}
use Rattle.script_commands.proofs.listing.Listing.add_to.Given as goal

abbrev pub decreases-loop-left : goal.decreases-loop-left
decreases-loop-left l = length l.left

abbrev pub invariant-loop-left : goal.invariant-loop-left
invariant-loop-left l = l.text.items ++ flat_map next_item l.left ≡ l.initial.text.items ++ flat_map next_item l.initial.left
