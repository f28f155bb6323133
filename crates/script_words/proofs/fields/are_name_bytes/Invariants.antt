use Rattle.std.proofs.Common.{◌≡◌, drop}
use Rattle.script_words.specs.Fields.{are_name_bytes}
use Rattle.script_words.proofs.fields.are_name_bytes.Given as goal

abbrev pub invariant-loop-byte : goal.invariant-loop-byte
invariant-loop-byte l = are_name_bytes (drop l.byte-index l.bytes) ≡ are_name_bytes l.bytes
