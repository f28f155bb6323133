use Rattle.std.proofs.Common.{◌≡◌, length}
use Rattle.script_words.specs.Lines.{words_of}
use Rattle.script_words.proofs.Cutting.{Scanned}
use Rattle.script_words.proofs.segments.cut.Given as goal

abbrev pub invariant-loop-word : goal.invariant-loop-word
invariant-loop-word l = record {
  same : l.left.rest.now ≡ l.rest.rest.now;
  scanned : Scanned l.words.rest.now l.rest.rest.now;
}

abbrev pub decreases-loop-word : goal.decreases-loop-word
decreases-loop-word l = length (words_of l.rest.rest.now)
