use Rattle.std.proofs.Common.{◌≡◌, rules, arith, refl}
use Rattle.futures.specs.declared.task.Poll.TheVariants.{Ready, Pending}
use Rattle.cold_flow.specs.declared.event.Event.TheVariants.{Value, End}
use Rattle.cold_flow.specs.FoldLaws.{folds_none, folds_value, folds_waits, folds_end}
use Rattle.cold_flow.specs.PolledLaws.{folds_nothing, folds_one, folds_all, folds_pauses, folds_many}
use Rattle.cold_flow.proofs.ends.fold.Folding.poll.Goals as goal

pub returns-clause-takes : goal.returns-clause-takes
returns-clause-takes g c =
    let none : c.take.result ≡ Pending = search rules in
    let polled = rw none at c.take.ensures.polled in
    let state = rw none at c.take.ensures.state in
    rw (c.in_default.is, state) (folds_pauses g.R.Run.polled (g.G.Apply.gives c.args.self.now.function) _ _ _ _ _ _ (folds_nothing _ _ _ _) polled)

pub returns-in-End-clause-takes : goal.returns-in-End-clause-takes
returns-in-End-clause-takes g c =
    let gave : c.take.result ≡ Ready (End c.in-End.cause) = search rules in
    let polled = rw gave at c.take.ensures.polled in
    let state = rw gave at c.take.ensures.state in
    rw (c.in_default.is, state) (folds_all g.R.Run.polled (g.G.Apply.gives c.args.self.now.function) _ _ _ _ _ _ _ (folds_nothing _ _ _ _) polled)

pub loop-taken-init : goal.loop-taken-init
loop-taken-init g c =
    let gave : c.take.result ≡ Ready (Value c.in_default-ready.field-0) = search rules in
    let made = rw gave at c.take.ensures.state in
    let going = rw gave at (c.take.ensures.ended c.in_default.is) in
    record {
      before = c.in_default.is;
      going = going;
      same = c.take.ensures.same;
      folds = folds_value _ _ _ _ _ _ _ _ (folds_none _ _ _) (rw gave at c.take.ensures.narrows) made;
      took = folds_one _ _ _ _ _ _ _ _ _ _ (folds_nothing _ _ _ _) (rw gave at c.take.ensures.polled) made;
      kept = search rules;
    }

pub loop-taken-preserved : goal.loop-taken-preserved
loop-taken-preserved g c =
    let gave : c.take-in-loop-taken.result ≡ Ready (Value c.in_default-ready-2.field-0) = search rules in
    let made = rw (gave, c.loop-taken.invariant.same) at c.take-in-loop-taken.ensures.state in
    let going = rw gave at (c.take-in-loop-taken.ensures.ended c.loop-taken.invariant.going) in
    record {
      before = c.loop-taken.invariant.before;
      going = going;
      same = search rules;
      folds = folds_value _ _ _ _ _ _ _ _ c.loop-taken.invariant.folds (rw gave at c.take-in-loop-taken.ensures.narrows) made;
      took = folds_one _ _ _ _ _ _ _ _ _ _ c.loop-taken.invariant.took (rw gave at c.take-in-loop-taken.ensures.polled) made;
      kept = search rules;
    }

pub returns-in-loop-taken-clause-folds : goal.returns-in-loop-taken-clause-folds
returns-in-loop-taken-clause-folds g c =
    let none : c.take-in-loop-taken.result ≡ Pending = search rules in
    let going = rw none at (c.take-in-loop-taken.ensures.ended c.loop-taken.invariant.going) in
    let state = rw none at c.take-in-loop-taken.ensures.state in
    rw (c.loop-taken.invariant.before, state)
    (going, folds_waits _ _ _ _ _ _ c.loop-taken.invariant.folds (rw none at c.take-in-loop-taken.ensures.narrows))

pub returns-in-loop-taken-clause-takes : goal.returns-in-loop-taken-clause-takes
returns-in-loop-taken-clause-takes g c =
    let none : c.take-in-loop-taken.result ≡ Pending = search rules in
    let state = rw none at c.take-in-loop-taken.ensures.state in
    rw (c.loop-taken.invariant.before, state)
    (folds_pauses g.R.Run.polled (g.G.Apply.gives c.args.self.now.function) _ _ _ _ _ _ c.loop-taken.invariant.took (rw none at c.take-in-loop-taken.ensures.polled))

pub returns-in-End-ready-clause-folds : goal.returns-in-End-ready-clause-folds
returns-in-End-ready-clause-folds g c =
    let gave : c.take-in-loop-taken.result ≡ Ready (End c.in-End-ready.cause) = search rules in
    let over = rw gave at (c.take-in-loop-taken.ensures.ended c.loop-taken.invariant.going) in
    let state = rw gave at c.take-in-loop-taken.ensures.state in
    rw (c.loop-taken.invariant.before, state)
    (over, refl, folds_end _ _ _ _ _ _ c.loop-taken.invariant.folds (rw gave at c.take-in-loop-taken.ensures.narrows))

pub returns-in-End-ready-clause-takes : goal.returns-in-End-ready-clause-takes
returns-in-End-ready-clause-takes g c =
    let gave : c.take-in-loop-taken.result ≡ Ready (End c.in-End-ready.cause) = search rules in
    let state = rw gave at c.take-in-loop-taken.ensures.state in
    rw (c.loop-taken.invariant.before, state)
    (folds_all g.R.Run.polled (g.G.Apply.gives c.args.self.now.function) _ _ _ _ _ _ _ c.loop-taken.invariant.took (rw gave at c.take-in-loop-taken.ensures.polled))

pub returns-2-clause-folds : goal.returns-2-clause-folds
returns-2-clause-folds g c =
    rw (c.yield_now.ensures.pending, c.loop-taken.invariant.before) (c.loop-taken.invariant.going, c.loop-taken.invariant.folds)

pub returns-2-clause-takes : goal.returns-2-clause-takes
returns-2-clause-takes g c =
    rw (c.yield_now.ensures.pending, c.loop-taken.invariant.before)
    (folds_many g.R.Run.polled (g.G.Apply.gives c.args.self.now.function) _ _ _ _ _ c.loop-taken.invariant.took (omega arith))
