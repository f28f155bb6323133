use Rattle.std.proofs.Common.{◌≡◌, ◌++◌, map, drop, string_bytes}
use Rattle.marble_pictures.specs.Captions.{plain_byte}
use Rattle.marble_pictures.proofs.caption.push_plain.Given as goal

abbrev pub invariant-loop-byte : goal.invariant-loop-byte
invariant-loop-byte l = string_bytes l.text ++ map plain_byte (drop l.byte-index l.bytes) ≡ string_bytes l.fn.text ++ map plain_byte l.bytes
