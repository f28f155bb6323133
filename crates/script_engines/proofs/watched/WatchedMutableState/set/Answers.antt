use Rattle.std.proofs.Common.{rules, ℕ, ap}
use Rattle.state_flow.specs.declared.view.View.{View}
use Rattle.script_engines.proofs.Watching.{stepped}
use Rattle.script_engines.proofs.watched.WatchedMutableState.set.Goals as goal

pub invariant_of-self : goal.invariant_of-self
invariant_of-self c = stepped c.self.inside.seat _ _ c.self.invariant (ap (λ (v : View ℕ). v.share) c.set.ensures.has.one_step.only) (ap (λ (v : View ℕ). v.runs) c.set.ensures.has.one_step.only)

-- A wrong body makes this false: so answered, it is refused at once.
pub returns : goal.returns
returns c = search rules
