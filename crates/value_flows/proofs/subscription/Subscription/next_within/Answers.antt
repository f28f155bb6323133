use Rattle.value_flows.proofs.Asking.{within}
use Rattle.value_flows.proofs.subscription.Subscription.next_within.Goals as goal

pub received-requires : goal.received-requires
received-requires g c = (c.args.self.now, c.in-Some.ensures)
