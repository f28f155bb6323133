use Rattle.std.proofs.Common.{◌≡◌, ◌++◌, drop, string_bytes}
use Rattle.std.specs.List.{flat_map}
use Rattle.marble_pictures.specs.Symbols.{symbol_text}
use Rattle.marble_pictures.proofs.svg.push_symbols.Given as goal

abbrev pub invariant-loop-one : goal.invariant-loop-one
invariant-loop-one l = string_bytes l.picture ++ flat_map (symbol_text l.sheet) (drop l.one-index l.placed) ≡ string_bytes l.fn.picture ++ flat_map (symbol_text l.sheet) l.placed
