use Rattle.std.proofs.Common.{◌≡◌, length, take}
use Rattle.script_words.specs.Numbers.{written}
use Rattle.script_run.proofs.subscriptions.numbers_in.Given as goal

-- the numbers before this index are read
abbrev pub invariant-loop-index : goal.invariant-loop-index
invariant-loop-index l = record {
  places : length l.values ≡ 16;
  read : take l.index l.values ≡ take l.index (written l.numbers);
}
