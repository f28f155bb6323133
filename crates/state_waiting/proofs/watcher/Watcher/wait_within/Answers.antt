use Rattle.std.proofs.Common.{refl, ◌∙◌}
use Rattle.state_waiting.specs.Waits.{not_once}
use Rattle.state_waiting.proofs.Asking.{goes_on, ends_so}
use Rattle.state_waiting.proofs.watcher.Watcher.wait_within.Goals as goal

pub loop-init : goal.loop-init
loop-init g c = (refl, not_once c.args.self.now.view)

pub loop-preserved : goal.loop-preserved
loop-preserved g c = (
  c.attempt.ensures.same_flow ∙ c.loop.invariant.0,
  goes_on c.args.self.now.view c.loop.self.view c.attempt.new.self.view _ _ c.in-Asleep.is c.loop.invariant.1 c.attempt.ensures.came,
)

pub returns-in-Over-clause-awaits : goal.returns-in-Over-clause-awaits
returns-in-Over-clause-awaits g c =
    ends_so c.args.self.now.view c.loop.self.view c.attempt.new.self.view c.in-Over.collected _ c.in-Over.is c.loop.invariant.1 c.attempt.ensures.came
