use Rattle.std.proofs.Common.{◌++◌, ◌∷◌, [], length, sym, ap, subst, arith, ◌+◌}
use Rattle.std.proofs.KnownBytes.{Appends-nil}
use Rattle.std.proofs.lemmas.Result.{err_from_is_err_and}
use Rattle.script_run.specs.Standings.{standing}
use Rattle.script_run.specs.Replying.{Comes, run_state, first_state}
use Rattle.script_run.proofs.Progress.{comes_none, comes_more, comes_end, whole_came, front_came}
use Rattle.script_run.proofs.Writing.{wrote_more, appends_kept, stops}
use Rattle.script_run.proofs.script.write_answers.Goals as goal

pub answers-init : goal.answers-init
answers-init g c =
    let start = standing c.args.run.now.runner in
    let first = first_state c.args.script.now start in
    record {
      came = (
        [],
        subst (Comes g.O.ScriptObject.makes g.O.ScriptObject.asks g.O.ScriptObject.joins first []) (sym c.requires.first) (comes_none g.O.ScriptObject.makes g.O.ScriptObject.asks g.O.ScriptObject.joins first),
        Appends-nil (g.W.Write.contents c.args.writer.now),
      );
      room = omega (arith, ap (λ p. p.number + length p.rest) c.requires.first, c.requires.short);
    }

pub answers-preserved : goal.answers-preserved
answers-preserved g c = record {
  came = (
    c.answers.invariant.came.0 ++ c.in-Some.answered ∷ [],
    comes_more g.O.ScriptObject.makes g.O.ScriptObject.asks g.O.ScriptObject.joins (first_state c.args.script.now (standing c.args.run.now.runner)) (run_state c.answers.run) (run_state c.next.new.self) c.answers.invariant.came.0 _
        c.answers.invariant.came.1 (rw c.in-Some.is at c.in_ok-answered.ensures.goes_on),
    wrote_more (g.W.Write.contents c.args.writer.now) (g.W.Write.contents c.answers.writer) (g.W.Write.contents c.write_answer.new.writer) c.answers.invariant.came.0 c.in-Some.answered c.answers.invariant.came.2 c.in_ok-write_answer.ensures,
  );
  room = c.next.ensures.room;
}

pub returns-in_err-write_answer : goal.returns-in_err-write_answer
returns-in_err-write_answer g c =
    let p = err_from_is_err_and c.from_residual-in_err-write_answer.result c.from_residual-in_err-write_answer.ensures.1 in
    let script = c.args.script.now in
    let start = standing c.args.run.now.runner in
    let came = c.answers.invariant.came in
    let more = comes_more g.O.ScriptObject.makes g.O.ScriptObject.asks g.O.ScriptObject.joins (first_state script start) (run_state c.answers.run) (run_state c.next.new.self) came.0 _ came.1 (rw c.in-Some.is at c.in_ok-answered.ensures.goes_on) in
    rw (p.1, p.2) (stops g.O.ScriptObject.makes g.O.ScriptObject.asks g.O.ScriptObject.joins (g.W.Write.contents c.args.writer.now) (g.W.Write.contents c.answers.writer) (g.W.Write.contents c.write_answer.new.writer) script came.0 c.in-Some.answered c.in_err-write_answer.field-0.0
    (front_came g.O.ScriptObject.makes g.O.ScriptObject.asks g.O.ScriptObject.joins script start came.0 (run_state c.answers.run) c.requires.fresh came.1)
    (front_came g.O.ScriptObject.makes g.O.ScriptObject.asks g.O.ScriptObject.joins script start _ (run_state c.next.new.self) c.requires.fresh more)
    came.2 c.in_err-write_answer.ensures)

pub returns-in-Ok : goal.returns-in-Ok
returns-in-Ok g c =
    let script = c.args.script.now in
    let start = standing c.args.run.now.runner in
    let came = c.answers.invariant.came in
    let last = rw c.in_default.is at c.in_ok-answered.ensures.goes_on in (
      came.0,
      whole_came g.O.ScriptObject.makes g.O.ScriptObject.asks g.O.ScriptObject.joins script start came.0 (run_state c.next.new.self) c.requires.fresh
          (comes_end g.O.ScriptObject.makes g.O.ScriptObject.asks g.O.ScriptObject.joins (first_state script start) (run_state c.answers.run) (run_state c.next.new.self) came.0 came.1 last.0) last.1,
      appends_kept (g.W.Write.contents c.args.writer.now) (g.W.Write.contents c.answers.writer) (g.W.Write.contents c.flush.new.self) _ came.2 c.flush.ensures.bytes,
    )
