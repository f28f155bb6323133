use Rattle.std.proofs.Common.{arith, false, refl, inl, sym, ◌∙◌}
use Rattle.cold_flow.specs.Laws.{Through-within, told-some}
use Rattle.cold_flow.specs.LoopLaws.{going_no_end, going_rests}
use Rattle.more_operators.specs.Scan.{scan_from, scan_begins, scan_gives, scan_ends, not_first}
use Rattle.more_operators.proofs.operators.scan.ScannedRunRun.poll_next.Goals as goal

-- the source has ended
pub returns-in-Some-clause-narrows : goal.returns-in-Some-clause-narrows
returns-in-Some-clause-narrows g c = rw (← c.end.ensures, c.in-Some.is) (inl refl)

pub returns-in-Some-clause-ends : goal.returns-in-Some-clause-ends
returns-in-Some-clause-ends g c = sym c.end.ensures ∙ c.in-Some.is

pub returns-in-Some-clause-stops : goal.returns-in-Some-clause-stops
returns-in-Some-clause-stops g c h = g.met.S.Run.halts c.args.self.now.source (told-some _ _ _ c.end.ensures c.in-Some.is)

pub returns-in-Some-clause-stays : goal.returns-in-Some-clause-stays
returns-in-Some-clause-stays g c k e = let told = c.end.ensures in let is = c.in-Some.is in cc

-- the first state
pub returns-then-not-self-clause-narrows : goal.returns-then-not-self-clause-narrows
returns-then-not-self-clause-narrows g c =
    let was = c.args.self.now in
    rw (sym c.end.ensures ∙ c.in_default.is, c.if-not-self.true) (scan_begins (g.G.Apply.gives was.function) (g.S.Run.may was.source) was.state)

pub returns-then-not-self-clause-ends : goal.returns-then-not-self-clause-ends
returns-then-not-self-clause-ends g c = sym c.end.ensures ∙ c.in_default.is

pub returns-then-not-self-clause-stays : goal.returns-then-not-self-clause-stays
returns-then-not-self-clause-stays g c k e = absurd (going_no_end _ k (sym c.end.ensures ∙ c.in_default.is) e)

pub returns-then-not-self-clause-approaches : goal.returns-then-not-self-clause-approaches
returns-then-not-self-clause-approaches g c = rw c.if-not-self.true (λ h. (h, omega arith))

-- a value
pub returns-clause-narrows : goal.returns-clause-narrows
returns-clause-narrows g c =
    let was = c.args.self.now in
    let came = rw c.in-Ready-Value.field-0-is at c.in-Ready-Value.ensures.narrows in
    let going = rw c.in-Ready-Value.field-0-is at c.in-Ready-Value.ensures.ends in
    rw (sym c.end.ensures ∙ c.in_default.is, going, c.if-not-self.false)
    (scan_gives (g.G.Apply.gives was.function) (g.S.Run.may was.source) (g.S.Run.may c.poll_next.new.self) was.state c.apply-self.result
    c.in-Ready-Value.value c.apply-self.ensures came)

pub returns-clause-stays : goal.returns-clause-stays
returns-clause-stays g c k e = absurd (going_no_end _ k (sym c.end.ensures ∙ c.in_default.is) e)

pub returns-clause-approaches : goal.returns-clause-approaches
returns-clause-approaches g c =
    rw c.if-not-self.false (rw c.in-Ready-Value.field-0-is at c.in-Ready-Value.ensures.approaches)

pub returns-clause-polled : goal.returns-clause-polled
returns-clause-polled g c =
    (tt, λ now. not_first _ now c.if-not-self.false, going_rests _ _ _ (sym c.end.ensures ∙ c.in_default.is))

-- the end
pub returns-in-Ready-End-clause-narrows : goal.returns-in-Ready-End-clause-narrows
returns-in-Ready-End-clause-narrows g c =
    let was = c.args.self.now in
    let came = rw c.in-Ready-End.field-0-is at c.in-Ready-End.ensures.narrows in
    rw (sym c.end.ensures ∙ c.in_default.is, c.if-not-self.false)
    (scan_ends (g.G.Apply.gives was.function) (g.S.Run.may was.source) was.state c.in-Ready-End.cause came)

pub returns-in-Ready-End-clause-stays : goal.returns-in-Ready-End-clause-stays
returns-in-Ready-End-clause-stays g c k e = absurd (going_no_end _ k (sym c.end.ensures ∙ c.in_default.is) e)

pub returns-in-Ready-End-clause-polled : goal.returns-in-Ready-End-clause-polled
returns-in-Ready-End-clause-polled g c =
    (tt, λ now. not_first _ now c.if-not-self.false, going_rests _ _ _ (sym c.end.ensures ∙ c.in_default.is))

-- nothing yet
pub returns-in-Pending-clause-narrows : goal.returns-in-Pending-clause-narrows
returns-in-Pending-clause-narrows g c =
    let was = c.args.self.now in
    rw (sym c.end.ensures ∙ c.in_default.is, c.in-Pending.ensures.ends, c.if-not-self.false)
    (Through-within (scan_from (g.G.Apply.gives was.function) false was.state) (g.S.Run.may was.source) (g.S.Run.may c.poll_next.new.self)
    c.in-Pending.ensures.narrows)

pub returns-in-Pending-clause-stays : goal.returns-in-Pending-clause-stays
returns-in-Pending-clause-stays g c k e = absurd (going_no_end _ k (sym c.end.ensures ∙ c.in_default.is) e)

pub returns-in-Pending-clause-approaches : goal.returns-in-Pending-clause-approaches
returns-in-Pending-clause-approaches g c = rw c.if-not-self.false c.in-Pending.ensures.approaches

pub returns-in-Pending-clause-polled : goal.returns-in-Pending-clause-polled
returns-in-Pending-clause-polled g c =
    (c.in-Pending.ensures.polled, λ now. not_first _ now c.if-not-self.false, going_rests _ _ _ (sym c.end.ensures ∙ c.in_default.is))
