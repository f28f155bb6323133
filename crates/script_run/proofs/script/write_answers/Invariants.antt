use Rattle.std.proofs.Common.{◌≤◌, ◌+◌, length, List}
use Rattle.std.specs.Io.KnownBytes.{Appends}
use Rattle.script_run.specs.declared.line_answer.LineAnswer.{LineAnswer}
use Rattle.script_run.specs.Standings.{standing}
use Rattle.script_run.specs.Replying.{Comes, run_state, first_state}
use Rattle.script_run.specs.Scripts.{text_of_answers}
use Rattle.script_run.proofs.script.write_answers.Given as goal

abbrev pub invariant-answers : goal.invariant-answers
invariant-answers g l = record {
  came : (all : List LineAnswer)
      × Comes g.O.ScriptObject.makes g.O.ScriptObject.asks g.O.ScriptObject.joins (first_state l.script (standing l.fn.run.runner)) all (run_state l.run)
      × Appends (g.W.Write.contents l.fn.writer) (g.W.Write.contents l.writer) (text_of_answers all);
  room : l.run.number + length l.run.lines.rest.now ≤ 1048576;
}

abbrev pub decreases-answers : goal.decreases-answers
decreases-answers g l = length l.run.lines.rest.now
