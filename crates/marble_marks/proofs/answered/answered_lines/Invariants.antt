use Rattle.std.proofs.Common.{◌≡◌, ◌≤◌, ◌+◌, ◌++◌, length, map}
use Rattle.script_words.specs.Lines.{lines_of}
use Rattle.marble_marks.specs.AnsweredLines.{asked_in, asked_from, asked_of, saying_in}
use Rattle.marble_marks.proofs.answered.answered_lines.Given as goal

abbrev pub invariant-loop-line : goal.invariant-loop-line
invariant-loop-line l = record {
  read : map asked_in l.answered_lines.items ++ asked_from (length l.answered_lines.items) l.number (lines_of l.lines.rest.now) (map saying_in l.left) ≡ asked_of l.script (map saying_in l.answers);
  room : l.number + length l.lines.rest.now ≤ 1048576;
}

abbrev pub decreases-loop-line : goal.decreases-loop-line
decreases-loop-line l = length l.lines.rest.now
