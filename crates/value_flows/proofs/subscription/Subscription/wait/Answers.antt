use Rattle.value_flows.specs.Receiving.{not_once}
use Rattle.value_flows.proofs.Asking.{goes_on, ends_so}
use Rattle.value_flows.proofs.subscription.Subscription.wait.Goals as goal

pub loop-init : goal.loop-init
loop-init g c = not_once c.args.self.now

pub loop-preserved : goal.loop-preserved
loop-preserved g c = goes_on c.args.self.now c.loop.self c.attempt.new.self _ _ c.in-Asleep.is c.loop.invariant c.attempt.ensures

pub returns-in-Over : goal.returns-in-Over
returns-in-Over g c = ends_so c.args.self.now c.loop.self c.attempt.new.self c.in-Over.awaited _ c.in-Over.is c.loop.invariant c.attempt.ensures
