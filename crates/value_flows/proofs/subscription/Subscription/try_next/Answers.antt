use Rattle.value_flows.proofs.subscription.Subscription.try_next.Goals as goal

pub give_clone-requires : goal.give_clone-requires
give_clone-requires g c = (c.args.self.now, c.in-There.ensures.0, c.in-There.ensures.1)

pub returns-in-Ok : goal.returns-in-Ok
returns-in-Ok g c = let got = c.in-Ok.ensures.given c.args.self.now c.in-There.ensures.0 c.in-There.ensures.1 in (c.in-There.ensures.0, got.0, got.1)

pub returns-in-Err : goal.returns-in-Err
returns-in-Err g c = let left = c.in-Err.ensures.refused c.args.self.now c.in-There.ensures.0 c.in-There.ensures.1 in (c.in-There.ensures.0, left.0, left.1)
