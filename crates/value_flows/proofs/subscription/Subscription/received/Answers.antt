use Rattle.std.proofs.Common.{subst}
use Rattle.value_flows.specs.Receiving.{ComesTo}
use Rattle.value_flows.proofs.subscription.Subscription.received.Goals as goal

pub give_clone-requires : goal.give_clone-requires
give_clone-requires g c =
    let came = subst (λ a. ComesTo c.requires.0 a c.args.self.now) c.in-There.is c.requires.1 in (came.1.0, came.0, came.1.2)

pub returns-in-Ok : goal.returns-in-Ok
returns-in-Ok g c = λ before came.
    let there = subst (λ a. ComesTo before a c.args.self.now) c.in-There.is came in
    let got = c.in-Ok.ensures.given there.1.0 there.0 there.1.2 in
    (there.1.0, there.1.1, (there.0, got.0, got.1))

pub returns-in-Err : goal.returns-in-Err
returns-in-Err g c = λ before came.
    let there = subst (λ a. ComesTo before a c.args.self.now) c.in-There.is came in
    let left = c.in-Err.ensures.refused there.1.0 there.0 there.1.2 in
    (there.1.0, there.1.1, (there.0, left.0, left.1))

pub returns-in-Missed : goal.returns-in-Missed
returns-in-Missed g c = λ before came. subst (λ a. ComesTo before a c.args.self.now) c.in-Missed.is came

pub returns-in-Stopped : goal.returns-in-Stopped
returns-in-Stopped g c = λ before came. subst (λ a. ComesTo before a c.args.self.now) c.in-Stopped.is came
