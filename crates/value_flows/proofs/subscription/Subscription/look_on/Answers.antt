use Rattle.value_flows.specs.Receiving.{not_once, once_more}
use Rattle.value_flows.proofs.subscription.Subscription.look_on.Goals as goal

pub loop-init : goal.loop-init
loop-init g c = not_once c.args.self.now

pub loop-preserved : goal.loop-preserved
loop-preserved g c = once_more c.args.self.now c.loop.self c.look.new.self c.loop.invariant c.in-Nothing.ensures

pub returns-in-There : goal.returns-in-There
returns-in-There g c = (c.in-There.ensures.0, (c.loop.self, c.loop.invariant, c.in-There.ensures.1))

pub returns-in-Missed : goal.returns-in-Missed
returns-in-Missed g c = (c.loop.self, c.loop.invariant, c.in-Missed.ensures)
