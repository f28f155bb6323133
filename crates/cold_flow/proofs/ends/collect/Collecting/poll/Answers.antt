use Rattle.std.proofs.Common.{rules, arith, ◌≡◌, ◌++◌, ◌∷◌, [], refl}
use Rattle.cold_flow.specs.GatherLaws.{gathers_value, gathers_end, gathers_so_far, gathers_within}
use Rattle.cold_flow.specs.PolledLaws.{took_none, took_one, took_all, took_broken, took_pauses, took_many}
use Rattle.cold_flow.proofs.ends.collect.Collecting.poll.Goals as goal

pub returns-then-is_err-clause-gathers : goal.returns-then-is_err-clause-gathers
returns-then-is_err-clause-gathers g c =
    let after = rw c.in-Ready-Value.field-0-is at c.in-Ready-Value.ensures.narrows in
    let same : c.push.new.self.items ≡ c.loop-taken.self.values.items = rw (c.push.ensures.items, c.is_err.ensures.negation, c.if-is_err.true) in
    rw (c.loop-taken.invariant.before, same) (refl, refl, c.loop-taken.invariant.within _ (gathers_so_far _ _ (g.met.R.Run.begins _)))

pub returns-in-Ready-End-clause-gathers : goal.returns-in-Ready-End-clause-gathers
returns-in-Ready-End-clause-gathers g c =
    let came = rw c.in-Ready-End.field-0-is at c.in-Ready-End.ensures.narrows in
    rw (c.loop-taken.invariant.before, c.replace-values.ensures.value, c.replace-values.ensures.after)
    (refl, c.new-empty.ensures.items, c.loop-taken.invariant.within _ (gathers_end _ _ _ came))

pub loop-taken-init : goal.loop-taken-init
loop-taken-init g c = record {
  before = c.in-Going.is;
  going = c.in-Going.is;
  within = λ t h. h;
  took = took_none _ _ _;
  kept = search rules;
}

pub returns-then-is_err-clause-takes : goal.returns-then-is_err-clause-takes
returns-then-is_err-clause-takes g c =
    let same : c.push.new.self.items ≡ c.loop-taken.self.values.items = rw (c.push.ensures.items, c.is_err.ensures.negation, c.if-is_err.true) in
    rw (c.loop-taken.invariant.before, same)
    (took_broken _ g.R.Run.cancelled _ _ _ _ c.poll_next.new.self c.cancel.new.self _ _ c.loop-taken.invariant.took (rw c.in-Ready-Value.field-0-is at c.in-Ready-Value.ensures.polled) c.cancel.ensures.cancelled)

pub returns-in-Ready-End-clause-takes : goal.returns-in-Ready-End-clause-takes
returns-in-Ready-End-clause-takes g c =
    rw (c.loop-taken.invariant.before, c.replace-values.ensures.value)
    (took_all _ _ _ _ _ _ _ _ c.loop-taken.invariant.took (rw c.in-Ready-End.field-0-is at c.in-Ready-End.ensures.polled))

pub returns-in-Pending-clause-gathers : goal.returns-in-Pending-clause-gathers
returns-in-Pending-clause-gathers g c =
    rw c.loop-taken.invariant.before
    (c.loop-taken.invariant.going, λ t h. c.loop-taken.invariant.within t (gathers_within _ _ _ c.in-Pending.ensures.narrows t h))

pub returns-in-Pending-clause-takes : goal.returns-in-Pending-clause-takes
returns-in-Pending-clause-takes g c =
    rw c.loop-taken.invariant.before
    (took_pauses g.R.Run.polled _ _ _ _ _ _ c.loop-taken.invariant.took c.in-Pending.ensures.polled)

pub returns-clause-gathers : goal.returns-clause-gathers
returns-clause-gathers g c =
    rw (c.yield_now.ensures.pending, c.loop-taken.invariant.before) (c.loop-taken.invariant.going, c.loop-taken.invariant.within)

pub returns-clause-takes : goal.returns-clause-takes
returns-clause-takes g c =
    rw (c.yield_now.ensures.pending, c.loop-taken.invariant.before)
    (took_many g.R.Run.polled _ _ _ _ _ c.loop-taken.invariant.took (omega arith))

pub loop-taken-preserved : goal.loop-taken-preserved
loop-taken-preserved g c =
    let after = rw c.in-Ready-Value.field-0-is at c.in-Ready-Value.ensures.narrows in
    let more : c.push.new.self.items ≡ c.loop-taken.self.values.items ++ c.in-Ready-Value.value ∷ [] = rw (c.push.ensures.items, c.is_err.ensures.negation, c.if-is_err.false) in
    record {
      before = c.loop-taken.invariant.before;
      going = c.loop-taken.invariant.going;
      within = λ t h. c.loop-taken.invariant.within t (gathers_value _ _ _ _ _ after more t h);
      took = took_one _ _ _ _ _ _ _ _ _ c.loop-taken.invariant.took (rw c.in-Ready-Value.field-0-is at c.in-Ready-Value.ensures.polled) more;
      kept = search rules;
    }

-- A wrong body makes this false: so answered, it is refused at once.
pub returns-then-is_err-clause-cancelled : goal.returns-then-is_err-clause-cancelled
returns-then-is_err-clause-cancelled g c = search rules
