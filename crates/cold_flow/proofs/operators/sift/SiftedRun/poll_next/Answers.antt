use Rattle.std.proofs.Common.{arith, refl, inl, inr, sym, ◌∙◌}
use Rattle.cold_flow.specs.Trace.{on_values}
use Rattle.cold_flow.specs.Laws.{Through-within, told-some}
use Rattle.cold_flow.specs.LoopLaws.{asked_more, asked_last, asked_all, asked_fewer, going_no_end, going_rests}
use Rattle.cold_flow.specs.SiftLaws.{sift_gives, sift_ends, sift_skips}
use Rattle.cold_flow.specs.PassingLaws.{left_out_none, left_out_more, passes_value, passes_end, passes_pending, passes_nothing, passes_again}
use Rattle.cold_flow.proofs.operators.sift.SiftedRun.poll_next.Goals as goal

pub returns-in-Some-clause-narrows : goal.returns-in-Some-clause-narrows
returns-in-Some-clause-narrows g c = rw (← c.end.ensures, c.in-Some.is) (inl refl)

pub returns-in-Some-clause-ends : goal.returns-in-Some-clause-ends
returns-in-Some-clause-ends g c = sym c.end.ensures ∙ c.in-Some.is

pub returns-in-Some-clause-stops : goal.returns-in-Some-clause-stops
returns-in-Some-clause-stops g c h = g.met.S.Run.halts c.args.self.now.source (told-some _ _ _ c.end.ensures c.in-Some.is)

pub returns-in-Some-clause-stays : goal.returns-in-Some-clause-stays
returns-in-Some-clause-stays g c k e = let told = c.end.ensures in let is = c.in-Some.is in cc

pub loop-asked-init : goal.loop-asked-init
loop-asked-init g c =
    let going = sym c.end.ensures ∙ c.in_default.is in
    record {
      narrows = λ t h. h;
      begun = going;
      going = going;
      approaches = λ h. (h, omega arith);
      left_out = left_out_none _ _ _ _;
      kept = λ fact h. h;
    }

pub returns-in-Some-sift-clause-narrows : goal.returns-in-Some-sift-clause-narrows
returns-in-Some-sift-clause-narrows g c =
    let came = rw c.in-Ready-Value.field-0-is at c.in-Ready-Value.ensures.narrows in
    let law = g.met.M.Sift.step in
    let going = rw c.in-Ready-Value.field-0-is at c.in-Ready-Value.ensures.ends in
    rw (c.loop-asked.invariant.begun, going)
    (λ t h. c.loop-asked.invariant.narrows _
    (sift_gives g.M.Sift.passes g.M.Sift.keeps g.M.Sift.after law _ _ _ _ _ _ _ c.sift.ensures.keeps c.in-Some-sift.is c.sift.ensures.after came t h))

pub returns-in-Some-sift-clause-stays : goal.returns-in-Some-sift-clause-stays
returns-in-Some-sift-clause-stays g c k e = absurd (going_no_end _ k c.loop-asked.invariant.begun e)

pub returns-in-Some-sift-clause-approaches : goal.returns-in-Some-sift-clause-approaches
returns-in-Some-sift-clause-approaches g c =
    asked_last (g.S.Run.polls c.args.self.now.source) (g.S.Run.polls c.loop-asked.self.source) (g.S.Run.polls c.poll_next.new.self) c.loop-asked._asked
    c.loop-asked.invariant.approaches (rw c.in-Ready-Value.field-0-is at c.in-Ready-Value.ensures.approaches)

pub returns-in-Ready-End-clause-narrows : goal.returns-in-Ready-End-clause-narrows
returns-in-Ready-End-clause-narrows g c =
    let came = rw c.in-Ready-End.field-0-is at c.in-Ready-End.ensures.narrows in
    rw c.loop-asked.invariant.begun
    (c.loop-asked.invariant.narrows _ (sift_ends g.M.Sift.passes g.M.Sift.keeps g.M.Sift.after g.met.M.Sift.none c.loop-asked.self.sift _ _ came))

pub returns-in-Ready-End-clause-stays : goal.returns-in-Ready-End-clause-stays
returns-in-Ready-End-clause-stays g c k e = absurd (going_no_end _ k c.loop-asked.invariant.begun e)

pub returns-in-Pending-clause-narrows : goal.returns-in-Pending-clause-narrows
returns-in-Pending-clause-narrows g c =
    rw (c.loop-asked.invariant.begun, c.in-Pending.ensures.ends)
    (λ t h. c.loop-asked.invariant.narrows t
    (Through-within (on_values (g.M.Sift.passes c.loop-asked.self.sift)) _ _ c.in-Pending.ensures.narrows t h))

pub returns-in-Pending-clause-stays : goal.returns-in-Pending-clause-stays
returns-in-Pending-clause-stays g c k e = absurd (going_no_end _ k c.loop-asked.invariant.begun e)

pub returns-in-Pending-clause-approaches : goal.returns-in-Pending-clause-approaches
returns-in-Pending-clause-approaches g c =
    asked_last (g.S.Run.polls c.args.self.now.source) (g.S.Run.polls c.loop-asked.self.source) (g.S.Run.polls c.poll_next.new.self) c.loop-asked._asked
    c.loop-asked.invariant.approaches c.in-Pending.ensures.approaches

pub returns-clause-narrows : goal.returns-clause-narrows
returns-clause-narrows g c =
    rw (c.yield_now.ensures.pending, c.loop-asked.invariant.begun, c.loop-asked.invariant.going) c.loop-asked.invariant.narrows

pub returns-clause-stays : goal.returns-clause-stays
returns-clause-stays g c k e = absurd (going_no_end _ k c.loop-asked.invariant.begun e)

pub returns-clause-approaches : goal.returns-clause-approaches
returns-clause-approaches g c =
    rw c.yield_now.ensures.pending
    (asked_fewer (g.S.Run.polls c.args.self.now.source) (g.S.Run.polls c.loop-asked.self.source) c.loop-asked._asked c.loop-asked.invariant.approaches
    c.loop-asked-test.false)

pub loop-asked-preserved : goal.loop-asked-preserved
loop-asked-preserved g c =
    let came = rw c.in-Ready-Value.field-0-is at c.in-Ready-Value.ensures.narrows in
    let going = rw c.in-Ready-Value.field-0-is at c.in-Ready-Value.ensures.ends in
    let fewer = rw c.in-Ready-Value.field-0-is at c.in-Ready-Value.ensures.approaches in
    let polled = rw c.in-Ready-Value.field-0-is at c.in-Ready-Value.ensures.polled in
    let law = g.met.M.Sift.step in
    record {
      narrows = λ t h. c.loop-asked.invariant.narrows _
          (sift_skips g.M.Sift.passes g.M.Sift.keeps g.M.Sift.after law _ _ _ _ _ _ c.sift.ensures.keeps c.in_default-sift.is c.sift.ensures.after came t h);
      begun = c.loop-asked.invariant.begun;
      going = going;
      approaches =
          asked_more (g.S.Run.polls c.args.self.now.source) (g.S.Run.polls c.loop-asked.self.source) (g.S.Run.polls c.poll_next.new.self)
          c.loop-asked._asked c.loop-asked.invariant.approaches fewer;
      left_out = left_out_more _ g.M.Sift.passes g.M.Sift.keeps g.M.Sift.after g.met.M.Sift.step _ _ _ _ _ _ _ _ _ c.loop-asked.invariant.left_out polled
          c.sift.ensures.keeps c.in_default-sift.is c.sift.ensures.after;
      kept = λ fact h. c.poll_next.ensures.kept fact (c.loop-asked.invariant.kept fact h);
    }

pub returns-in-Some-clause-polled : goal.returns-in-Some-clause-polled
returns-in-Some-clause-polled g c = (passes_again _ _ _ _ _, tt, λ _ _. refl)

pub returns-in-Some-sift-clause-polled : goal.returns-in-Some-sift-clause-polled
returns-in-Some-sift-clause-polled g c =
    let polled = rw c.in-Ready-Value.field-0-is at c.in-Ready-Value.ensures.polled in
    let before = c.loop-asked.invariant.left_out in (
      passes_value _ g.M.Sift.passes g.M.Sift.keeps g.M.Sift.after g.met.M.Sift.step _ _ _ _ _ _ _ _ _ _ before polled c.sift.ensures.keeps
          c.in-Some-sift.is c.sift.ensures.after,
      tt,
      going_rests _ _ _ c.loop-asked.invariant.begun,
    )

pub returns-in-Ready-End-clause-polled : goal.returns-in-Ready-End-clause-polled
returns-in-Ready-End-clause-polled g c =
    let polled = rw c.in-Ready-End.field-0-is at c.in-Ready-End.ensures.polled in
    (passes_end _ _ _ _ _ _ _ _ _ c.loop-asked.invariant.left_out polled, tt, going_rests _ _ _ c.loop-asked.invariant.begun)

pub returns-in-Pending-clause-polled : goal.returns-in-Pending-clause-polled
returns-in-Pending-clause-polled g c = (
  passes_pending _ _ _ _ _ _ _ _ c.loop-asked.invariant.left_out c.in-Pending.ensures.polled,
  inl (c.loop-asked.self.source, c.in-Pending.ensures.polled),
  going_rests _ _ _ c.loop-asked.invariant.begun,
)

pub returns-clause-polled : goal.returns-clause-polled
returns-clause-polled g c =
    rw c.yield_now.ensures.pending (
      passes_nothing _ _ _ _ _ _ _ c.loop-asked.invariant.left_out (omega arith),
      inr (asked_all (g.S.Run.polls c.args.self.now.source) (g.S.Run.polls c.loop-asked.self.source) c.loop-asked._asked
          c.loop-asked.invariant.approaches c.loop-asked-test.false),
      going_rests _ _ _ c.loop-asked.invariant.begun,
    )
