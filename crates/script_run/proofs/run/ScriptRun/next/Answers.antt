use Rattle.std.proofs.Common.{Some, None, refl, arith}
use Rattle.script_run.specs.Replying.{run_state}
use Rattle.script_run.proofs.Progress.{next_line}
use Rattle.script_run.proofs.run.ScriptRun.next.Goals as goal

pub returns-in-Some-2-clause-goes_on : goal.returns-in-Some-2-clause-goes_on
returns-in-Some-2-clause-goes_on g c =
    next_line g.O.ScriptObject.makes g.O.ScriptObject.asks g.O.ScriptObject.joins (run_state c.args.self.now) (run_state c.lines.self) _ c.in-Some.line.now (Some c.in-Some-2.answer)
    c.lines.invariant.came c.in-Some.ensures.some refl (rw c.in-Some-2.is at c.in_ok-answer.ensures)

pub lines-preserved : goal.lines-preserved
lines-preserved g c = record {
  came = next_line g.O.ScriptObject.makes g.O.ScriptObject.asks g.O.ScriptObject.joins (run_state c.args.self.now) (run_state c.lines.self) _ c.in-Some.line.now None
      c.lines.invariant.came c.in-Some.ensures.some refl (rw c.in_default-2.is at c.in_ok-answer.ensures);
  room = omega (arith, c.lines.invariant.room, c.in-Some.ensures.shorter);
  left = omega (arith, c.lines.invariant.left, c.in-Some.ensures.shorter);
}
