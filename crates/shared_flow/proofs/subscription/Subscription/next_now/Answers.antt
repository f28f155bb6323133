use Rattle.std.proofs.Common.{◌++◌, ap, ◌∙◌}
use Rattle.shared_flow.specs.Looks.{Missed}
use Rattle.shared_flow.specs.Preludes.{IsGreeted}
use Rattle.flow_terms.specs.Lists.{some_of}
use Rattle.shared_flow.specs.Parties.{received}
use Rattle.shared_flow.proofs.Receiving.{gave_room, past_looked, still}
use Rattle.shared_flow.proofs.subscription.Subscription.next_now.Goals as goal

pub returns-in-None-clause-missed : goal.returns-in-None-clause-missed
returns-in-None-clause-missed g c =
    let s = c.args.self.now in
    let greeted = c.greet.new.self in
    past_looked c.look.result (λ r t. Missed r t) s greeted c.look.new.self (still s greeted c.greet.ensures.same c.in-None.ensures.past c.in-None.ensures.kept) c.in-None.ensures.past.0 c.look.ensures.missed

pub returns-in-None-clause-room : goal.returns-in-None-clause-room
returns-in-None-clause-room g c =
    let s = c.args.self.now in
    let greeted = c.greet.new.self in
    let t = c.look.new.self in
    gave_room c.look.result (λ v. IsGreeted s v t) s greeted t (still s greeted c.greet.ensures.same c.in-None.ensures.past c.in-None.ensures.kept) c.look.ensures.room

pub look-requires : goal.look-requires
look-requires g c = record { past = c.in-None.ensures.past.1 }

pub returns-in-None-clause-has : goal.returns-in-None-clause-has
returns-in-None-clause-has g c =
    let is = still c.args.self.now c.greet.new.self c.greet.ensures.same c.in-None.ensures.past c.in-None.ensures.kept in
    c.look.ensures.has ∙ ap (λ x. received g.T.Word.read_as x ++ some_of c.look.result) is

pub returns-in-Some-clause-has : goal.returns-in-Some-clause-has
returns-in-Some-clause-has g c = c.greet.ensures.has ∙ ap (λ o. received g.T.Word.read_as c.args.self.now ++ some_of o) c.in-Some.is
