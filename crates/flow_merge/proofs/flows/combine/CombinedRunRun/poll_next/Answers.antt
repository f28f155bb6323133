use Rattle.std.proofs.Common.{rules, inr}
use Rattle.flow_merge.specs.Counting.{unended, going_rests, after_question, after_wait, last_question, no_more_questions, enough_questions}
use Rattle.flow_merge.specs.CombineLaws.{other_waited}
use Rattle.flow_merge.proofs.flows.combine.CombinedRunRun.poll_next.Goals as goal

pub returns-in-Ready-Some-Value-clause-narrows : goal.returns-in-Ready-Some-Value-clause-narrows
returns-in-Ready-Some-Value-clause-narrows g c =
    let asked = rw (c.in-Ready-Some-Value.field-0-is, c.in-Ready-Some-Value.field-0-0-is) at c.in-Ready-Some-Value.ensures.asked in
    λ t h. c.turns.invariant.within _ (asked t h)

pub returns-in-Ready-Some-Value-clause-approaches : goal.returns-in-Ready-Some-Value-clause-approaches
returns-in-Ready-Some-Value-clause-approaches g c =
    let fewer = rw (c.in-Ready-Some-Value.field-0-is, c.in-Ready-Some-Value.field-0-0-is) at c.in-Ready-Some-Value.ensures.approaches in
    λ h. last_question _ _ _ _ (c.turns.invariant.approaches h) fewer

pub returns-in-Ready-Some-Value-clause-stays : goal.returns-in-Ready-Some-Value-clause-stays
returns-in-Ready-Some-Value-clause-stays g c k e = absurd (unended _ k c.turns.invariant.begun e)

pub returns-in-Ready-Some-End-clause-stays : goal.returns-in-Ready-Some-End-clause-stays
returns-in-Ready-Some-End-clause-stays g c k e = absurd (unended _ k c.turns.invariant.begun e)

pub returns-then-waited-clause-stays : goal.returns-then-waited-clause-stays
returns-then-waited-clause-stays g c k e = absurd (unended _ k c.turns.invariant.begun e)

pub returns-clause-stays : goal.returns-clause-stays
returns-clause-stays g c k e = absurd (unended _ k c.turns.invariant.begun e)

pub returns-in-Ready-Some-End-clause-narrows : goal.returns-in-Ready-Some-End-clause-narrows
returns-in-Ready-Some-End-clause-narrows g c =
    let asked = rw (c.in-Ready-Some-End.field-0-is, c.in-Ready-Some-End.field-0-0-is) at c.in-Ready-Some-End.ensures.asked in
    c.turns.invariant.within _ asked

pub turns-preserved-in-Ready-None : goal.turns-preserved-in-Ready-None
turns-preserved-in-Ready-None g c =
    let asked = rw c.in-Ready-None.field-0-is at c.in-Ready-None.ensures.asked in
    let fewer = rw c.in-Ready-None.field-0-is at c.in-Ready-None.ensures.approaches in
    record {
      begun = c.turns.invariant.begun;
      going = c.in-Ready-None.ensures.going;
      within = λ t h. c.turns.invariant.within t (asked t h);
      approaches = λ h. after_question _ _ _ _ (c.turns.invariant.approaches h) fewer;
      waited = λ h. absurd (cc);
      kept = search rules;
    }

pub returns-then-waited-clause-narrows : goal.returns-then-waited-clause-narrows
returns-then-waited-clause-narrows g c =
    λ t h. c.turns.invariant.within _ (c.in-Pending.ensures.asked t h)

pub returns-then-waited-clause-approaches : goal.returns-then-waited-clause-approaches
returns-then-waited-clause-approaches g c =
    λ h. last_question _ _ _ _ (c.turns.invariant.approaches h) c.in-Pending.ensures.approaches

pub turns-preserved : goal.turns-preserved
turns-preserved g c =
    let was = c.turns.self in
    let now = c.ask.new.self in
    record {
      begun = c.turns.invariant.begun;
      going = c.in-Pending.ensures.going;
      within = λ t h. c.turns.invariant.within t (c.in-Pending.ensures.asked t h);
      approaches = λ h. after_wait _ _ _ _ (c.turns.invariant.approaches h) c.in-Pending.ensures.approaches;
      waited = λ h. other_waited g.A.Run.polled g.B.Run.polled was.turn now.turn now.left.finished now.right.finished was.left.run now.left.run
          was.right.run now.right.run c.in-Pending.ensures.waits c.if-self.false c.if-self-2.false;
      kept = search rules;
    }

pub returns-clause-narrows : goal.returns-clause-narrows
returns-clause-narrows g c =
    rw c.yield_now.ensures.pending c.turns.invariant.within

pub returns-clause-approaches : goal.returns-clause-approaches
returns-clause-approaches g c =
    rw c.yield_now.ensures.pending (λ h. no_more_questions _ _ _ (c.turns.invariant.approaches h) c.turns-test.false)

pub returns-in-Ready-Some-Value-clause-polled : goal.returns-in-Ready-Some-Value-clause-polled
returns-in-Ready-Some-Value-clause-polled g c = (tt, going_rests _ _ _ c.turns.invariant.begun, going_rests _ _ _ c.turns.invariant.begun)

pub returns-in-Ready-Some-End-clause-polled : goal.returns-in-Ready-Some-End-clause-polled
returns-in-Ready-Some-End-clause-polled g c = (tt, going_rests _ _ _ c.turns.invariant.begun, going_rests _ _ _ c.turns.invariant.begun)

pub returns-clause-polled : goal.returns-clause-polled
returns-clause-polled g c =
    rw c.yield_now.ensures.pending (
      inr (λ h. enough_questions _ _ _ (c.turns.invariant.approaches h) c.turns-test.false),
      going_rests _ _ _ c.turns.invariant.begun,
      going_rests _ _ _ c.turns.invariant.begun,
    )

-- A wrong body makes this false: so answered, it is refused at once.
pub turns-smaller : goal.turns-smaller
turns-smaller g c = search rules
