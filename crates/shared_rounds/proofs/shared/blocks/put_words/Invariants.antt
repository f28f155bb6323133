use Rattle.std.proofs.Common.{◌≡◌, map, take}
use Rattle.shared_rounds.proofs.shared.blocks.put_words.Given as goal

abbrev pub invariant-loop-index : goal.invariant-loop-index
invariant-loop-index g l = take l.index l.block ≡ map g.T.Word.word (take l.index l.values)
