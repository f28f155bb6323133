use Rattle.std.proofs.Common.{rules, arith, refl, ◌≡◌, None, sym, ◌∙◌, inl, inr}
use Rattle.flow_terms.specs.declared.few.Few.TheVariants.{Zero}
use Rattle.flow_terms.specs.Few.{split}
use Rattle.cold_flow.specs.Transform.{held_then}
use Rattle.cold_flow.specs.Laws.{Through-within, Through-end, told-some}
use Rattle.cold_flow.specs.LoopLaws.{asked_more, asked_all, going_no_end, going_rests}
use Rattle.cold_flow.specs.FewLaws.{held_gives, asked_gives, asked_skips}
use Rattle.cold_flow.proofs.operators.transform.TransformedRunRun.poll_next.Goals as goal

pub returns-in-Some-clause-narrows : goal.returns-in-Some-clause-narrows
returns-in-Some-clause-narrows g c = rw (← c.end.ensures, c.in-Some.is) (inl refl)

pub returns-in-Some-clause-ends : goal.returns-in-Some-clause-ends
returns-in-Some-clause-ends g c = sym c.end.ensures ∙ c.in-Some.is

pub returns-in-Some-clause-stops : goal.returns-in-Some-clause-stops
returns-in-Some-clause-stops g c h = g.met.S.Run.halts c.args.self.now.source (told-some _ _ _ c.end.ensures c.in-Some.is)

pub returns-in-Some-clause-stays : goal.returns-in-Some-clause-stays
returns-in-Some-clause-stays g c k e = let told = c.end.ensures in let is = c.in-Some.is in cc

pub returns-in-Some-split_first-clause-narrows : goal.returns-in-Some-split_first-clause-narrows
returns-in-Some-split_first-clause-narrows g c =
    let was = c.args.self.now in
    rw (sym c.end.ensures ∙ c.in_default.is) (held_gives (g.G.Apply.gives was.function) (g.S.Run.may was.source) was.held _ _ (sym c.in-Some-split_first.ensures.split))

pub returns-in-Some-split_first-clause-polled : goal.returns-in-Some-split_first-clause-polled
returns-in-Some-split_first-clause-polled g c = (tt, λ k e. refl)

pub returns-in-Some-split_first-clause-ends : goal.returns-in-Some-split_first-clause-ends
returns-in-Some-split_first-clause-ends g c = sym c.end.ensures ∙ c.in_default.is

pub returns-in-Some-split_first-clause-stays : goal.returns-in-Some-split_first-clause-stays
returns-in-Some-split_first-clause-stays g c k e = absurd (going_no_end _ k (sym c.end.ensures ∙ c.in_default.is) e)

pub loop-asked-init : goal.loop-asked-init
loop-asked-init g c =
    let zero : c.args.self.now.held ≡ Zero = search rules in
    record {
      before = zero;
      held = zero;
      narrows = λ t h. h;
      begun = sym c.end.ensures ∙ c.in_default.is;
      going = sym c.end.ensures ∙ c.in_default.is;
      approaches = λ h. (h, omega arith);
      kept = λ fact h. h;
    }

pub returns-in-Some-split_first-2-clause-narrows : goal.returns-in-Some-split_first-2-clause-narrows
returns-in-Some-split_first-2-clause-narrows g c =
    let now = c.loop-asked.self in
    let came = rw c.in-Ready-Value.field-0-is at c.in-Ready-Value.ensures.narrows in
    let gave = rw c.apply.ensures at (sym c.in-Some-split_first-2.ensures.split) in
    let going = rw c.in-Ready-Value.field-0-is at c.in-Ready-Value.ensures.ends in
    rw (c.loop-asked.invariant.begun, going, c.loop-asked.invariant.before)
    (λ t h. c.loop-asked.invariant.narrows _
    (asked_gives (g.G.Apply.gives now.function) (g.S.Run.may now.source) (g.S.Run.may c.poll_next.new.self) c.in-Ready-Value.value
    _ _ gave came t h))

pub returns-in-Some-split_first-2-clause-polled : goal.returns-in-Some-split_first-2-clause-polled
returns-in-Some-split_first-2-clause-polled g c = (tt, going_rests _ _ _ c.loop-asked.invariant.begun)

pub returns-in-Some-split_first-2-clause-stays : goal.returns-in-Some-split_first-2-clause-stays
returns-in-Some-split_first-2-clause-stays g c k e = absurd (going_no_end _ k c.loop-asked.invariant.begun e)

pub returns-in-Ready-End-clause-narrows : goal.returns-in-Ready-End-clause-narrows
returns-in-Ready-End-clause-narrows g c =
    let now = c.loop-asked.self in
    let came = rw c.in-Ready-End.field-0-is at c.in-Ready-End.ensures.narrows in
    rw (c.loop-asked.invariant.begun, c.loop-asked.invariant.before)
    (c.loop-asked.invariant.narrows _
    (Through-end (held_then (g.G.Apply.gives now.function) Zero) (g.S.Run.may now.source) c.in-Ready-End.cause c.in-Ready-End.cause refl came))

pub returns-in-Ready-End-clause-stays : goal.returns-in-Ready-End-clause-stays
returns-in-Ready-End-clause-stays g c k e = absurd (going_no_end _ k c.loop-asked.invariant.begun e)

pub returns-in-Ready-End-clause-polled : goal.returns-in-Ready-End-clause-polled
returns-in-Ready-End-clause-polled g c = (tt, going_rests _ _ _ c.loop-asked.invariant.begun)

pub returns-in-Pending-clause-narrows : goal.returns-in-Pending-clause-narrows
returns-in-Pending-clause-narrows g c =
    let now = c.loop-asked.self in
    rw (c.loop-asked.invariant.begun, c.in-Pending.ensures.ends, c.loop-asked.invariant.before, c.loop-asked.invariant.held)
    (λ t h. c.loop-asked.invariant.narrows t
    (Through-within (held_then (g.G.Apply.gives now.function) Zero) (g.S.Run.may now.source) (g.S.Run.may c.poll_next.new.self)
    c.in-Pending.ensures.narrows t h))

pub returns-in-Pending-clause-stays : goal.returns-in-Pending-clause-stays
returns-in-Pending-clause-stays g c k e = absurd (going_no_end _ k c.loop-asked.invariant.begun e)

pub returns-in-Pending-clause-polled : goal.returns-in-Pending-clause-polled
returns-in-Pending-clause-polled g c =
    (inl (c.loop-asked.self.source, c.in-Pending.ensures.polled), going_rests _ _ _ c.loop-asked.invariant.begun)

pub loop-asked-preserved : goal.loop-asked-preserved
loop-asked-preserved g c =
    let now = c.loop-asked.self in
    let came = rw c.in-Ready-Value.field-0-is at c.in-Ready-Value.ensures.narrows in
    let going = rw c.in-Ready-Value.field-0-is at c.in-Ready-Value.ensures.ends in
    let fewer = rw c.in-Ready-Value.field-0-is at c.in-Ready-Value.ensures.approaches in
    let gave : split (g.G.Apply.gives now.function c.in-Ready-Value.value) ≡ None =
    rw (← c.apply.ensures) (sym c.split_first-in-Ready-Value.ensures.split ∙ c.in_default-split_first-2.is) in
    record {
      before = c.loop-asked.invariant.before;
      held = c.loop-asked.invariant.held;
      narrows = λ t h. c.loop-asked.invariant.narrows t
          (asked_skips (g.G.Apply.gives now.function) (g.S.Run.may now.source) (g.S.Run.may c.poll_next.new.self) c.in-Ready-Value.value gave came t h);
      begun = c.loop-asked.invariant.begun;
      going = going;
      approaches =
          asked_more (g.S.Run.polls c.args.self.now.source) (g.S.Run.polls c.loop-asked.self.source) (g.S.Run.polls c.poll_next.new.self)
          c.loop-asked._asked c.loop-asked.invariant.approaches fewer;
      kept = λ fact h. c.poll_next.ensures.kept fact (c.loop-asked.invariant.kept fact h);
    }

pub returns-clause-narrows : goal.returns-clause-narrows
returns-clause-narrows g c =
    rw (c.yield_now.ensures.pending, c.loop-asked.invariant.begun, c.loop-asked.invariant.going, c.loop-asked.invariant.before, c.loop-asked.invariant.held)
    c.loop-asked.invariant.narrows

pub returns-clause-stays : goal.returns-clause-stays
returns-clause-stays g c k e = absurd (going_no_end _ k c.loop-asked.invariant.begun e)

pub returns-clause-polled : goal.returns-clause-polled
returns-clause-polled g c =
    rw c.yield_now.ensures.pending (
      inr (asked_all (g.S.Run.polls c.args.self.now.source) (g.S.Run.polls c.loop-asked.self.source) c.loop-asked._asked
          c.loop-asked.invariant.approaches c.loop-asked-test.false),
      going_rests _ _ _ c.loop-asked.invariant.begun,
    )
