use Rattle.std.proofs.Common.{rules, sym, ◌∙◌, refl}
use Rattle.cold_flow.specs.Laws.{Through-within, Through-end}
use Rattle.cold_flow.specs.LoopLaws.{going_no_end, going_rests}
use Rattle.more_operators.specs.While.{while_trace, while_gives, while_stops}
use Rattle.more_operators.proofs.operators.take_while.PassingRunRun.poll_next.Goals as goal

pub returns-then-apply-clause-narrows : goal.returns-then-apply-clause-narrows
returns-then-apply-clause-narrows g c =
    let was = c.args.self.now in
    let came = rw c.in-Ready-Value.field-0-is at c.in-Ready-Value.ensures.narrows in
    let passes = sym c.apply.ensures ∙ c.if-apply.true in
    rw c.in_default.is
    (while_gives (g.G.Apply.gives was.test) (g.S.Run.may was.source) (g.S.Run.may c.poll_next.new.self) c.in-Ready-Value.value passes came)

pub returns-else-apply-clause-narrows : goal.returns-else-apply-clause-narrows
returns-else-apply-clause-narrows g c =
    let came = rw c.in-Ready-Value.field-0-is at c.in-Ready-Value.ensures.narrows in
    let fails = sym c.apply.ensures ∙ c.if-apply.false in
    rw c.in_default.is (while_stops (g.G.Apply.gives c.args.self.now.test) _ _ c.in-Ready-Value.value fails came (g.met.S.Run.begins _))

pub returns-in-Ready-End-clause-narrows : goal.returns-in-Ready-End-clause-narrows
returns-in-Ready-End-clause-narrows g c =
    let was = c.args.self.now in
    let came = rw c.in-Ready-End.field-0-is at c.in-Ready-End.ensures.narrows in
    rw c.in_default.is
    (Through-end (while_trace (g.G.Apply.gives was.test)) (g.S.Run.may was.source) c.in-Ready-End.cause c.in-Ready-End.cause refl came)

pub returns-in-Pending-clause-narrows : goal.returns-in-Pending-clause-narrows
returns-in-Pending-clause-narrows g c =
    let was = c.args.self.now in
    rw c.in_default.is
    (Through-within (while_trace (g.G.Apply.gives was.test)) (g.S.Run.may was.source) (g.S.Run.may c.poll_next.new.self) c.in-Pending.ensures.narrows)

pub returns-in-Some-clause-polled : goal.returns-in-Some-clause-polled
returns-in-Some-clause-polled g c = (tt, λ k e. refl, λ going e. absurd (going_no_end _ _ going c.in-Some.is))

pub returns-then-apply-clause-polled : goal.returns-then-apply-clause-polled
returns-then-apply-clause-polled g c = (tt, going_rests _ _ _ c.in_default.is, λ going e. absurd (cc))

pub returns-else-apply-clause-polled : goal.returns-else-apply-clause-polled
returns-else-apply-clause-polled g c = (tt, going_rests _ _ _ c.in_default.is, search rules)

pub returns-in-Ready-End-clause-polled : goal.returns-in-Ready-End-clause-polled
returns-in-Ready-End-clause-polled g c =
    (tt, going_rests _ _ _ c.in_default.is, λ going e. (rw c.in-Ready-End.field-0-is at c.in-Ready-End.ensures.stops) refl)

pub returns-in-Pending-clause-polled : goal.returns-in-Pending-clause-polled
returns-in-Pending-clause-polled g c = (c.in-Pending.ensures.polled, going_rests _ _ _ c.in_default.is, λ going e. absurd (cc))
