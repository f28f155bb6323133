use Rattle.std.proofs.Common.{◌≡◌, ◌++◌, drop, string_bytes}
use Rattle.std.specs.List.{flat_map}
use Rattle.marble_pictures.specs.Drawings.{name_text}
use Rattle.marble_pictures.proofs.svg.push_names.Given as goal

abbrev pub invariant-loop-mark : goal.invariant-loop-mark
invariant-loop-mark l = string_bytes l.picture ++ flat_map name_text (drop l.mark-index l.marks) ≡ string_bytes l.fn.picture ++ flat_map name_text l.marks
