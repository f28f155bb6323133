use Rattle.std.proofs.Common.{◌++◌, Some, None, sym, subst}
use Rattle.script_run.specs.Standings.{standing}
use Rattle.script_run.specs.Replying.{run_state, first_state}
use Rattle.script_run.proofs.Progress.{comes_more, whole_came, comes_end}
use Rattle.script_run.proofs.script.keep_answers.Goals as goal

pub answers-preserved : goal.answers-preserved
answers-preserved g c = record {
  came = rw c.in_ok-push.ensures.items (comes_more g.O.ScriptObject.makes g.O.ScriptObject.asks g.O.ScriptObject.joins (first_state c.args.script.now (standing c.args.run.now.runner)) (run_state c.answers.run) (run_state c.next.new.self) c.answers.answers.items _
      c.answers.invariant.came (rw c.in-Some.is at c.in_ok-answered.ensures.goes_on));
  room = c.next.ensures.room;
}

pub returns : goal.returns
returns g c =
    let last = rw c.in_default.is at c.in_ok-answered.ensures.goes_on in (
      c.requires.short,
      whole_came g.O.ScriptObject.makes g.O.ScriptObject.asks g.O.ScriptObject.joins c.args.script.now (standing c.args.run.now.runner) c.answers.answers.items (run_state c.next.new.self) c.requires.fresh
          (comes_end g.O.ScriptObject.makes g.O.ScriptObject.asks g.O.ScriptObject.joins (first_state c.args.script.now (standing c.args.run.now.runner)) (run_state c.answers.run) (run_state c.next.new.self) c.answers.answers.items c.answers.invariant.came last.0) last.1,
    )
