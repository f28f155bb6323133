use Rattle.std.proofs.Common.{◌≤◌, ◌+◌, length}
use Rattle.script_run.specs.Standings.{standing}
use Rattle.script_run.specs.Replying.{Comes, run_state, first_state}
use Rattle.script_run.proofs.script.keep_answers.Given as goal

abbrev pub invariant-answers : goal.invariant-answers
invariant-answers g l = record {
  came : Comes g.O.ScriptObject.makes g.O.ScriptObject.asks g.O.ScriptObject.joins (first_state l.script (standing l.fn.run.runner)) l.answers.items (run_state l.run);
  room : l.run.number + length l.run.lines.rest.now ≤ 1048576;
}

abbrev pub decreases-answers : goal.decreases-answers
decreases-answers g l = length l.run.lines.rest.now
