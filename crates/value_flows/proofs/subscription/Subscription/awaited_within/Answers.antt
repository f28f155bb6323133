use Rattle.value_flows.proofs.Asking.{comes_within}
use Rattle.value_flows.proofs.subscription.Subscription.awaited_within.Goals as goal

pub returns : goal.returns
returns g c = comes_within c.args.self.now c.look_on.new.self c.wait_within-awaited.new.self c.wait_within-awaited.result c.in_default.ensures c.wait_within-awaited.ensures
