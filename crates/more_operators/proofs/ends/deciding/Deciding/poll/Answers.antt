use Rattle.std.proofs.Common.{rules, arith, refl, inl, inr}
use Rattle.cold_flow.specs.Laws.{told-some}
use Rattle.more_operators.specs.DecidedLaws.{goes_none, goes_value, goes_waits, decides_value, decides_end, none-told}
use Rattle.more_operators.specs.DecidedLaws.{took_none, took_one, took_pauses, took_many, took_settles, took_all}
use Rattle.more_operators.proofs.ends.deciding.Deciding.poll.Goals as goal

pub loop-taken-init : goal.loop-taken-init
loop-taken-init g c =
    let decide = g.D.Decide in
    record {
      before = c.in_default.is;
      going = c.in_default.is;
      decides = goes_none decide.decides decide.after decide.closes _ _;
      took = took_none decide.decides decide.after decide.closes _ _ _;
      kept = search rules;
    }

pub loop-taken-preserved : goal.loop-taken-preserved
loop-taken-preserved g c =
    let decide = g.D.Decide in
    let before = c.loop-taken.invariant in
    let came = rw c.in-Ready-Value.field-0-is at c.in-Ready-Value.ensures.narrows in
    let polled = rw c.in-Ready-Value.field-0-is at c.in-Ready-Value.ensures.polled in
    record {
      before = before.before;
      going = before.going;
      decides = goes_value decide.decides decide.after decide.closes _ _ _ _ _ _ _ _ before.decides came c.take.ensures.decides
          c.in_default-take.is c.take.ensures.after;
      took = took_one decide.decides decide.after decide.closes _ _ _ _ _ _ _ _ _ _ before.took polled c.take.ensures.decides
          c.in_default-take.is c.take.ensures.after;
      kept = search rules;
    }

-- a value settles it
pub returns-in-Some-take-clause-decides : goal.returns-in-Some-take-clause-decides
returns-in-Some-take-clause-decides g c =
    let decide = g.D.Decide in
    let came = rw c.in-Ready-Value.field-0-is at c.in-Ready-Value.ensures.narrows in
    rw c.loop-taken.invariant.before (
      refl,
      decides_value decide.decides decide.after decide.closes _ _ _ _ _ _ _ _ c.loop-taken.invariant.decides came (g.met.R.Run.begins _)
          c.take.ensures.decides c.in-Some-take.is,
    )

pub returns-in-Some-take-clause-takes : goal.returns-in-Some-take-clause-takes
returns-in-Some-take-clause-takes g c =
    let decide = g.D.Decide in
    let polled = rw c.in-Ready-Value.field-0-is at c.in-Ready-Value.ensures.polled in
    rw c.loop-taken.invariant.before
    (inl (took_settles decide.decides decide.after decide.closes _ _ _ _ _ _ _ _ _ _ _ _ c.loop-taken.invariant.took polled c.cancel.ensures.cancelled
    c.take.ensures.decides c.in-Some-take.is))

pub returns-in-Some-take-clause-over : goal.returns-in-Some-take-clause-over
returns-in-Some-take-clause-over g c none told = told-some _ _ _ refl c.cancel.ensures.ends

-- the run has ended
pub returns-in-Ready-End-clause-decides : goal.returns-in-Ready-End-clause-decides
returns-in-Ready-End-clause-decides g c =
    let decide = g.D.Decide in
    let came = rw c.in-Ready-End.field-0-is at c.in-Ready-End.ensures.narrows in
    rw c.loop-taken.invariant.before
    (refl, decides_end decide.decides decide.after decide.closes _ _ _ _ _ _ c.loop-taken.invariant.decides came c.closed-answer.ensures)

pub returns-in-Ready-End-clause-takes : goal.returns-in-Ready-End-clause-takes
returns-in-Ready-End-clause-takes g c =
    let decide = g.D.Decide in
    let polled = rw c.in-Ready-End.field-0-is at c.in-Ready-End.ensures.polled in
    rw c.loop-taken.invariant.before
    (inr (took_all decide.decides decide.after decide.closes _ _ _ _ _ _ _ _ _ c.loop-taken.invariant.took polled c.closed-answer.ensures))

pub returns-in-Ready-End-clause-over : goal.returns-in-Ready-End-clause-over
returns-in-Ready-End-clause-over g c none told = told-some _ _ _ refl (rw c.in-Ready-End.field-0-is at c.in-Ready-End.ensures.ends)

-- nothing yet
pub returns-in-Pending-clause-decides : goal.returns-in-Pending-clause-decides
returns-in-Pending-clause-decides g c =
    let decide = g.D.Decide in
    rw c.loop-taken.invariant.before
    (c.loop-taken.invariant.going, goes_waits decide.decides decide.after decide.closes _ _ _ _ _ c.loop-taken.invariant.decides c.in-Pending.ensures.narrows)

pub returns-in-Pending-clause-takes : goal.returns-in-Pending-clause-takes
returns-in-Pending-clause-takes g c =
    let decide = g.D.Decide in
    rw c.loop-taken.invariant.before
    (took_pauses decide.decides decide.after decide.closes _ _ _ _ _ _ _ c.loop-taken.invariant.took c.in-Pending.ensures.polled)

pub returns-in-Pending-clause-over : goal.returns-in-Pending-clause-over
returns-in-Pending-clause-over g c none told = none-told _ c.loop-taken.invariant.going told

-- 64 values
pub returns-clause-decides : goal.returns-clause-decides
returns-clause-decides g c =
    rw (c.yield_now.ensures.pending, c.loop-taken.invariant.before) (c.loop-taken.invariant.going, c.loop-taken.invariant.decides)

pub returns-clause-takes : goal.returns-clause-takes
returns-clause-takes g c =
    let decide = g.D.Decide in
    rw (c.yield_now.ensures.pending, c.loop-taken.invariant.before)
    (took_many decide.decides decide.after decide.closes _ _ _ _ _ _ c.loop-taken.invariant.took (omega arith))

pub returns-clause-over : goal.returns-clause-over
returns-clause-over g c none told = none-told _ c.loop-taken.invariant.going told
