use Rattle.std.proofs.Common.{ℕ, ap}
use Rattle.state_flow.specs.declared.view.View.{View}
use Rattle.script_engines.proofs.Watching.{last_runs, last_ended, last_left_out}
use Rattle.script_engines.proofs.watched.WatchedState.close.Goals as goal

pub cancel-requires : goal.cancel-requires
cancel-requires c = last_runs c.loop-place.seat c.loop-place.collectors.items c.pop.new.self.items c.in-Some.place c.in-Some-place.collector c.loop-place.invariant c.in-Some.ensures.items c.in-Some-place.is

pub loop-place-preserved-in-Some-place : goal.loop-place-preserved-in-Some-place
loop-place-preserved-in-Some-place c =
    last_ended c.loop-place.seat c.cancel.new.self c.loop-place.collectors.items c.pop.new.self.items c.in-Some.place c.in-Some-place.collector c.loop-place.invariant c.in-Some.ensures.items c.in-Some-place.is
    (ap (λ (v : View ℕ). v.share) c.cancel.ensures.has.only) (ap (λ (v : View ℕ). v.runs) c.cancel.ensures.has.only)

pub loop-place-preserved : goal.loop-place-preserved
loop-place-preserved c = last_left_out c.loop-place.seat c.loop-place.collectors.items c.pop.new.self.items c.in-Some.place c.loop-place.invariant c.in-Some.ensures.items c.in_default-place.is
