use Rattle.std.proofs.Common.{rules, ◌∙◌, inl, inr}
use Rattle.flow_merge.specs.Counting.{unended, going_rests, after_question, last_question, no_more_questions, enough_questions}
use Rattle.flow_merge.proofs.flows.flat_map_concat.ConcatenatedRunRun.poll_next.Goals as goal

pub returns-in-Ready-Some-Value-clause-narrows : goal.returns-in-Ready-Some-Value-clause-narrows
returns-in-Ready-Some-Value-clause-narrows g c =
    let asked = rw (c.in-Ready-Some-Value.field-0-is, c.in-Ready-Some-Value.field-0-0-is) at c.in-Ready-Some-Value.ensures.asked in
    λ t h. c.loop-asked.invariant.within _ (asked t h)

pub returns-in-Ready-Some-Value-clause-approaches : goal.returns-in-Ready-Some-Value-clause-approaches
returns-in-Ready-Some-Value-clause-approaches g c =
    let fewer = rw (c.in-Ready-Some-Value.field-0-is, c.in-Ready-Some-Value.field-0-0-is) at c.in-Ready-Some-Value.ensures.approaches in
    λ h. last_question _ _ _ _ (c.loop-asked.invariant.approaches h) fewer

pub returns-in-Ready-Some-Value-clause-stays : goal.returns-in-Ready-Some-Value-clause-stays
returns-in-Ready-Some-Value-clause-stays g c k e = absurd (unended _ k c.loop-asked.invariant.begun e)

pub returns-in-Ready-Some-End-clause-stays : goal.returns-in-Ready-Some-End-clause-stays
returns-in-Ready-Some-End-clause-stays g c k e = absurd (unended _ k c.loop-asked.invariant.begun e)

pub returns-in-Pending-clause-stays : goal.returns-in-Pending-clause-stays
returns-in-Pending-clause-stays g c k e = absurd (unended _ k c.loop-asked.invariant.begun e)

pub returns-clause-stays : goal.returns-clause-stays
returns-clause-stays g c k e = absurd (unended _ k c.loop-asked.invariant.begun e)

pub returns-in-Ready-Some-End-clause-narrows : goal.returns-in-Ready-Some-End-clause-narrows
returns-in-Ready-Some-End-clause-narrows g c =
    let asked = rw (c.in-Ready-Some-End.field-0-is, c.in-Ready-Some-End.field-0-0-is) at c.in-Ready-Some-End.ensures.asked in
    c.loop-asked.invariant.within _ asked

pub returns-in-Pending-clause-narrows : goal.returns-in-Pending-clause-narrows
returns-in-Pending-clause-narrows g c =
    λ t h. c.loop-asked.invariant.within _ (c.in-Pending.ensures.asked t h)

pub returns-in-Pending-clause-approaches : goal.returns-in-Pending-clause-approaches
returns-in-Pending-clause-approaches g c =
    λ h. last_question _ _ _ _ (c.loop-asked.invariant.approaches h) c.in-Pending.ensures.approaches

pub returns-in-Ready-Some-Value-clause-polled : goal.returns-in-Ready-Some-Value-clause-polled
returns-in-Ready-Some-Value-clause-polled g c = (tt, going_rests _ _ _ c.loop-asked.invariant.begun, going_rests _ _ _ c.loop-asked.invariant.begun)

pub returns-in-Ready-Some-End-clause-polled : goal.returns-in-Ready-Some-End-clause-polled
returns-in-Ready-Some-End-clause-polled g c = (tt, going_rests _ _ _ c.loop-asked.invariant.begun, going_rests _ _ _ c.loop-asked.invariant.begun)

pub returns-in-Pending-clause-polled : goal.returns-in-Pending-clause-polled
returns-in-Pending-clause-polled g c = (
  inl c.in-Pending.ensures.waits,
  going_rests _ _ _ c.loop-asked.invariant.begun,
  going_rests _ _ _ c.loop-asked.invariant.begun,
)

pub loop-asked-preserved : goal.loop-asked-preserved
loop-asked-preserved g c =
    let asked = rw c.in-Ready-None.field-0-is at c.in-Ready-None.ensures.asked in
    let fewer = rw c.in-Ready-None.field-0-is at c.in-Ready-None.ensures.approaches in
    record {
      begun = c.loop-asked.invariant.begun;
      going = c.in-Ready-None.ensures.same.0 ∙ c.loop-asked.invariant.going;
      within = λ t h. c.loop-asked.invariant.within t (asked t h);
      approaches = λ h. after_question _ _ _ _ (c.loop-asked.invariant.approaches h) fewer;
      kept = search rules;
    }

pub returns-clause-narrows : goal.returns-clause-narrows
returns-clause-narrows g c =
    rw c.yield_now.ensures.pending c.loop-asked.invariant.within

pub returns-clause-approaches : goal.returns-clause-approaches
returns-clause-approaches g c =
    rw c.yield_now.ensures.pending (λ h. no_more_questions _ _ _ (c.loop-asked.invariant.approaches h) c.loop-asked-test.false)

pub returns-clause-polled : goal.returns-clause-polled
returns-clause-polled g c =
    rw c.yield_now.ensures.pending (
      inr (λ h. enough_questions _ _ _ (c.loop-asked.invariant.approaches h) c.loop-asked-test.false),
      going_rests _ _ _ c.loop-asked.invariant.begun,
      going_rests _ _ _ c.loop-asked.invariant.begun,
    )

-- A wrong body makes this false: so answered, it is refused at once.
pub returns-in-Ready-Some-End-clause-ends : goal.returns-in-Ready-Some-End-clause-ends
returns-in-Ready-Some-End-clause-ends g c = search rules
