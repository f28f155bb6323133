use Rattle.shared_flow.proofs.subscription.Subscription.cancel.Goals as goal

pub returns-clause-last : goal.returns-clause-last
returns-clause-last g c = (c.end-access.ensures.last.0, c.end-access.ensures.last.1)
