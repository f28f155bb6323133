use Rattle.hot_callers.proofs.Keeping.{only_receives}
use Rattle.hot_callers.proofs.alone_calling.take_next.Goals as goal

pub returns-in_err-value-clause-only : goal.returns-in_err-value-clause-only
returns-in_err-value-clause-only g c =
    (c.next.ensures.prelude, only_receives c.args.subscription.now.number c.args.subscription.now.party c.next.new.self.party c.next.ensures.rounds)

pub returns-clause-only : goal.returns-clause-only
returns-clause-only g c =
    (c.next.ensures.prelude, only_receives c.args.subscription.now.number c.args.subscription.now.party c.next.new.self.party c.next.ensures.rounds)
