use Rattle.shared_flow.proofs.Received.{receives_all}
use Rattle.shared_flow.proofs.subscription.Subscription.receives_all_but_dropped.Goals as goal

pub returns : goal.returns
returns g c = rw (← c.self.view_is) (receives_all g.T.Word.read_as _ c.self.invariant.4 c.self.invariant.5)
