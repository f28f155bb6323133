use Rattle.shared_rounds.proofs.shared.Shared.sleep_subscription.Goals as goal

pub returns-clause-asleep : goal.returns-clause-asleep
returns-clause-asleep c = rw (← c.self.view_is) c.sleep.ensures.asleep

pub returns-clause-stays : goal.returns-clause-stays
returns-clause-stays c = rw (← c.self.view_is) c.sleep.ensures.stays

pub returns-clause-others : goal.returns-clause-others
returns-clause-others c = rw (← c.self.view_is) c.sleep.ensures.others
