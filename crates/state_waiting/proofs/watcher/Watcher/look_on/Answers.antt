use Rattle.std.proofs.Common.{refl, subst, ◌∙◌}
use Rattle.state_flow.specs.Calls.{Collects}
use Rattle.state_waiting.specs.Waits.{not_once, once_more}
use Rattle.state_waiting.proofs.watcher.Watcher.look_on.Goals as goal

pub loop-init : goal.loop-init
loop-init g c = (refl, not_once c.self.inside.collector.view)

pub loop-preserved : goal.loop-preserved
loop-preserved g c =
    let before = c.loop.self-inside.collector in
    let after = c.try_next.new.self in
    let missed = subst (λ given. Collects before.view given after.view) c.in_default.is c.try_next.ensures.asks in
    (c.try_next.ensures.same_flow ∙ c.loop.invariant.0, once_more c.self.inside.collector.view before.view after.view c.loop.invariant.1 missed)
