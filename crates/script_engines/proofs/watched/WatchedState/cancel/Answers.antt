use Rattle.std.proofs.Common.{ℕ, refl, ap}
use Rattle.state_flow.specs.declared.view.View.{View}
use Rattle.script_engines.proofs.Watching.{within, runs_one, taken_away, cancels, ended}
use Rattle.script_engines.proofs.watched.WatchedState.cancel.Goals as goal

pub returns-in_default-take : goal.returns-in_default-take
returns-in_default-take c = rw (← c.self.view_is, ← c.place_of.ensures) (ended c.self.inside.seat c.self.inside.collectors.items c.place_of.result c.in-Some.place.now c.take.new.self (within c.place_of.result _ _ c.self.inside.collectors.ok.0 (c.in-Some.ensures.variant.0 refl)) c.in-Some.ensures.value c.in_default-take.ensures.value c.take.ensures.after)

pub cancel-requires : goal.cancel-requires
cancel-requires c = runs_one c.self.inside.seat c.self.inside.collectors.items c.place_of.result c.in-Some-take.collector c.in-Some.place.now c.self.invariant (within c.place_of.result _ _ c.self.inside.collectors.ok.0 (c.in-Some.ensures.variant.0 refl)) c.in-Some.ensures.value c.in-Some-take.ensures.value

pub invariant_of-self-2 : goal.invariant_of-self-2
invariant_of-self-2 c =
    taken_away c.self.inside.seat c.cancel.new.self c.self.inside.collectors.items c.place_of.result c.in-Some-take.collector c.in-Some.place.now c.take.new.self c.self.invariant (within c.place_of.result _ _ c.self.inside.collectors.ok.0 (c.in-Some.ensures.variant.0 refl)) c.in-Some.ensures.value c.in-Some-take.ensures.value c.take.ensures.after
    (ap (λ (v : View ℕ). v.share) c.cancel.ensures.has.only) (ap (λ (v : View ℕ). v.runs) c.cancel.ensures.has.only)

pub returns : goal.returns
returns c = rw (← c.self.view_is, ← c.place_of.ensures) (cancels c.self.inside.seat c.cancel.new.self c.self.inside.collectors.items c.place_of.result c.in-Some-take.collector c.in-Some.place.now c.take.new.self (within c.place_of.result _ _ c.self.inside.collectors.ok.0 (c.in-Some.ensures.variant.0 refl)) c.in-Some.ensures.value c.in-Some-take.ensures.value c.take.ensures.after c.cancel.ensures.has c.cancel.ensures.same_flow)
