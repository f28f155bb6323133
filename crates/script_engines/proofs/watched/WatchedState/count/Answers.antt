use Rattle.std.proofs.Common.{ℕ, ap}
use Rattle.state_flow.specs.declared.view.View.{View}
use Rattle.script_engines.proofs.Watching.{stepped}
use Rattle.script_engines.proofs.watched.WatchedState.count.Goals as goal

pub invariant_of-self : goal.invariant_of-self
invariant_of-self c = stepped c.self.inside.seat _ _ c.self.invariant (ap (λ (v : View ℕ). v.share) c.collectors.ensures.has.only) (ap (λ (v : View ℕ). v.runs) c.collectors.ensures.has.only)
