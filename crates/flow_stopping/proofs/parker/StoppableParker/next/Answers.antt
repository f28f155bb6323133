use Rattle.std.proofs.Common.{◌++◌, Ok, refl, ap, ◌∙◌}
use Rattle.std.proofs.lemmas.List.{append-nil}
use Rattle.shared_flow.specs.Looks.{by_none}
use Rattle.flow_terms.specs.Lists.{some_of}
use Rattle.shared_flow.specs.Parties.{received}
use Rattle.shared_flow.proofs.Waiting.{only_next}
use Rattle.flow_stopping.specs.Waits.{received_of}
use Rattle.flow_stopping.proofs.Looking.{looked_once, received_now, receives_then, room_now}
use Rattle.flow_stopping.proofs.parker.StoppableParker.next.Goals as goal

pub returns-in-Some : goal.returns-in-Some
returns-in-Some g c =
    let before = c.args.subscription.now in
    let after = c.next_now.new.self in record {
      has = c.next_now.ensures.has ∙ ap (λ o. received g.T.Word.read_as before ++ some_of o) c.in-Some.is;
      prelude = c.next_now.ensures.prelude;
      did = (
        c.next_now.ensures.same,
        only_next before.number before.number before.party before.party after.party refl (by_none before.party) c.next_now.ensures.rounds,
        received_now g.T.Word.read_as before after c.in-Some.value c.in-Some.ensures.given,
        room_now before after c.in-Some.value c.in-Some.ensures.room,
      );
    }

pub returns : goal.returns
returns g c =
    let before = c.args.subscription.now in
    let turn = c.next_now.new.self in
    let all = received g.T.Word.read_as before in
    let none = c.next_now.ensures.has ∙ ap (λ o. all ++ some_of o) c.in_default.is ∙ append-nil all in
    let looked = looked_once before turn c.in_default.ensures.missed in record {
      has = c.received.ensures.has ∙ ap (λ l. l ++ received_of (Ok c.received.result)) none;
      prelude = c.received.ensures.prelude ∙ c.next_now.ensures.prelude;
      did = receives_then g.T.Word.read_as before turn c.received.new.subscription c.received.result looked c.received.ensures.did;
    }
