use Rattle.std.proofs.Common.{ℕ, Some, None, refl, sym, ap}
use Rattle.state_flow.specs.declared.view.View.{View}
use Rattle.script_engines.proofs.Watching.{within, asked, nexts, closed, never}
use Rattle.script_engines.proofs.watched.WatchedState.next.Goals as goal

pub returns-in_default : goal.returns-in_default
returns-in_default c = rw (← c.self.view_is, ← c.place_of.ensures) (never c.self.inside.seat c.self.inside.collectors.items c.place_of.result _ c.self.inside.collectors.ok.0 c.in_default.ensures.variant.1)

pub returns-in_default-place : goal.returns-in_default-place
returns-in_default-place c = rw (← c.self.view_is, ← c.place_of.ensures) (closed c.self.inside.seat c.self.inside.collectors.items c.place_of.result c.in-Some.place.now (within c.place_of.result _ _ c.self.inside.collectors.ok.0 (c.in-Some.ensures.variant.0 refl)) c.in-Some.ensures.value c.in_default-place.is)

pub invariant_of-self-in_default-try_next : goal.invariant_of-self-in_default-try_next
invariant_of-self-in_default-try_next c = asked c.self.inside.seat c.try_next.new.self c.self.inside.collectors.items c.place_of.result c.in-Some-place.collector c.try_next.new.collector c.in-Some.place.now c.self.invariant c.in-Some.ensures.value (sym c.in-Some-place.is)
    (ap (λ (v : View ℕ). v.share) c.try_next.ensures.has.reads.one_step.only) (ap (λ (v : View ℕ). v.runs) c.try_next.ensures.has.reads.one_step.only)

pub returns-in_default-try_next : goal.returns-in_default-try_next
returns-in_default-try_next c = rw (← c.self.view_is, ← c.place_of.ensures) (nexts c.self.inside.seat c.try_next.new.self c.self.inside.collectors.items c.place_of.result c.in-Some-place.collector c.try_next.new.collector c.try_next.result None c.in-Some.place.now (within c.place_of.result _ _ c.self.inside.collectors.ok.0 (c.in-Some.ensures.variant.0 refl)) c.in-Some.ensures.value (sym c.in-Some-place.is) c.try_next.ensures.same_flow c.in_default-try_next.is c.try_next.ensures.has)

pub invariant_of-self-2 : goal.invariant_of-self-2
invariant_of-self-2 c = asked c.self.inside.seat c.try_next.new.self c.self.inside.collectors.items c.place_of.result c.in-Some-place.collector c.try_next.new.collector c.in-Some.place.now c.self.invariant c.in-Some.ensures.value (sym c.in-Some-place.is)
    (ap (λ (v : View ℕ). v.share) c.try_next.ensures.has.reads.one_step.only) (ap (λ (v : View ℕ). v.runs) c.try_next.ensures.has.reads.one_step.only)

pub returns : goal.returns
returns c = rw (← c.self.view_is, ← c.place_of.ensures) (nexts c.self.inside.seat c.try_next.new.self c.self.inside.collectors.items c.place_of.result c.in-Some-place.collector c.try_next.new.collector c.try_next.result (Some c.in-Some-try_next.value) c.in-Some.place.now (within c.place_of.result _ _ c.self.inside.collectors.ok.0 (c.in-Some.ensures.variant.0 refl)) c.in-Some.ensures.value (sym c.in-Some-place.is) c.try_next.ensures.same_flow c.in-Some-try_next.is c.try_next.ensures.has)
