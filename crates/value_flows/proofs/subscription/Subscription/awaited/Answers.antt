use Rattle.value_flows.proofs.Asking.{comes_on}
use Rattle.value_flows.proofs.subscription.Subscription.awaited.Goals as goal

pub returns : goal.returns
returns g c = comes_on c.args.self.now c.look_on.new.self c.wait-awaited.new.self c.wait-awaited.result c.in_default.ensures c.wait-awaited.ensures
