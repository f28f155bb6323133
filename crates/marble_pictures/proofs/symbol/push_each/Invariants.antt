use Rattle.std.proofs.Common.{◌≡◌, ◌++◌, drop, string_bytes}
use Rattle.std.specs.List.{flat_map}
use Rattle.marble_pictures.specs.Symbols.{escaped_byte}
use Rattle.marble_pictures.proofs.symbol.push_each.Given as goal

abbrev pub invariant-loop-byte : goal.invariant-loop-byte
invariant-loop-byte l = string_bytes l.picture ++ flat_map escaped_byte (drop l.byte-index l.bytes) ≡ string_bytes l.fn.picture ++ flat_map escaped_byte l.bytes
