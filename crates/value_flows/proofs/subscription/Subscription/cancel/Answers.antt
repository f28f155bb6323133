use Rattle.value_flows.proofs.subscription.Subscription.cancel.Goals as goal

pub end-requires : goal.end-requires
end-requires g c = (c.self.inside.next, c.self.invariant)
