use Rattle.std.proofs.Common.{◌≡◌, length, take}
use Rattle.script_words.specs.Plans.{entries_in}
use Rattle.script_words.proofs.start.Entries.plan.Given as goal

-- the entries before this index are read
abbrev pub invariant-loop-index : goal.invariant-loop-index
invariant-loop-index l = record {
  places : length l.entries ≡ 32;
  read : take l.index l.entries ≡ take l.index (entries_in l.self.word.now);
}
