use Rattle.std.proofs.Common.{◌≡◌, drop, ◌<◌, ◌^◌}
use Rattle.script_words.specs.Fields.{digits_from}
use Rattle.script_words.proofs.fields.number_of.Given as goal

-- the digits that are left, read on, say what all say
abbrev pub invariant-loop-digit : goal.invariant-loop-digit
invariant-loop-digit l = record {
  said : digits_from l.number (drop l.digit-index l.word) ≡ digits_from 0 l.word;
  small : l.number < 2 ^ 64;
}
