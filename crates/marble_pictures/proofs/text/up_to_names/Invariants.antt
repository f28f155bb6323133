use Rattle.std.proofs.Common.{◌≤◌}
use Rattle.marble_pictures.proofs.text.up_to_names.Given as goal

abbrev pub invariant-loop-index : goal.invariant-loop-index
invariant-loop-index l = l.end ≤ l.index
