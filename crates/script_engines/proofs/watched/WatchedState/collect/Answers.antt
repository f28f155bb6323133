use Rattle.std.proofs.Common.{rules, ℕ, ap}
use Rattle.state_flow.specs.declared.view.View.{View}
use Rattle.script_engines.proofs.Watching.{stepped, added}
use Rattle.script_engines.proofs.watched.WatchedState.collect.Goals as goal

pub invariant_of-self-in_err-collector : goal.invariant_of-self-in_err-collector
invariant_of-self-in_err-collector c =
    rw c.reserve.ensures.items (stepped c.self.inside.seat c.launch.new.self c.self.inside.collectors.items c.self.invariant (ap (λ (v : View ℕ). v.share) c.in_err-collector.ensures.unchanged) (ap (λ (v : View ℕ). v.runs) c.in_err-collector.ensures.unchanged))

pub invariant_of-self-2 : goal.invariant_of-self-2
invariant_of-self-2 c =
    rw (c.push_reserved.ensures.items, c.reserve.ensures.items) (added c.self.inside.seat c.launch.new.self c.self.inside.collectors.items _ c.self.invariant
    (ap (λ (v : View ℕ). v.share) c.in_ok-collector.ensures.has.1.only) (ap (λ (v : View ℕ). v.runs) c.in_ok-collector.ensures.has.1.only))

-- A wrong body makes this false: so answered, it is refused at once.
pub returns : goal.returns
returns c = search rules
