use Rattle.std.proofs.Common.{◌≡◌, ◌⊎◌, [], ◌∷◌, ◌++◌, refl, sym, ap, subst, ◌∙◌}
use Rattle.std.proofs.lemmas.List.{append-nil}
use Rattle.futures.specs.Poll.{IfReady, OnPending}
use Rattle.shared_rounds.specs.declared.round.Round.TheVariants as round
use Rattle.shared_rounds.specs.Entering.{Made}
use Rattle.shared_flow.specs.Looks.{GaveIn, MadeRoomIn, MissedTwice, by_none, once_more}
use Rattle.shared_flow.specs.Preludes.{IsGreeted, IsPast, GreetedOr}
use Rattle.flow_terms.specs.Lists.{some_of}
use Rattle.shared_flow.specs.Parties.{received, ready_of}
use Rattle.shared_flow.proofs.Waiting.{only_next}
use Rattle.flow_stopping.proofs.Looking.{looked_on, looked_soon, received_since, room_now, room_polled, room_then, rounds_since, since}
use Rattle.flow_stopping.proofs.parker.StoppableParker.received.Goals as goal

pub returns-in-Some : goal.returns-in-Some
returns-in-Some g c =
    let before = c.args.subscription.now in
    let after = c.next_soon.new.self in record {
      has = c.next_soon.ensures.has ∙ ap (λ o. received g.T.Word.read_as before ++ some_of o) c.in-Some.is;
      prelude = c.next_soon.ensures.prelude;
      did = (
        c.next_soon.ensures.same,
        only_next before.number before.number before.party before.party after.party refl (by_none before.party) c.next_soon.ensures.rounds,
        c.in-Some.ensures.given,
        room_now before after c.in-Some.value c.in-Some.ensures.room,
      );
    }

pub loop-init : goal.loop-init
loop-init g c =
    let before = c.args.subscription.now in
    let missed = c.in_default.ensures.missed in record {
      has = c.next_soon.ensures.has ∙ ap (λ o. received g.T.Word.read_as before ++ some_of o) c.in_default.is ∙ append-nil (received g.T.Word.read_as before);
      prelude = c.next_soon.ensures.prelude;
      looked = looked_soon before c.next_soon.new.self (missed.0, missed.1, once_more _ _ _ missed.2.1 missed.2.2);
    }

pub returns-then-is_stopped : goal.returns-then-is_stopped
returns-then-is_stopped g c =
    let it = c.loop.invariant in record {
      has = it.has ∙ sym (append-nil (received g.T.Word.read_as c.args.subscription.now));
      prelude = it.prelude;
      did = it.looked;
    }

pub returns-in-Ready : goal.returns-in-Ready
returns-in-Ready g c =
    let before = c.args.subscription.now in
    let turn = c.loop.subscription in
    let after = c.poll_next-polled.new.self in
    let v = c.in-Ready.value in
    let it = c.loop.invariant in
    let poll = c.poll_next-polled.ensures in
    let read_as = g.T.Word.read_as in
    let gave = subst (λ p. IfReady p (λ v. GreetedOr turn v after (GaveIn read_as turn.reader v after.reader))) c.in-Ready.is poll.ready in
    let rounds = subst (λ p. IfReady p (λ v. (after.party ≡ turn.party) ⊎ Made (round.Next turn.number) turn.party after.party)) c.in-Ready.is poll.rounds in
    let room = subst (λ p. IfReady p (λ v. IsGreeted turn v after ⊎ MadeRoomIn turn after)) c.in-Ready.is poll.room in record {
      has = poll.has ∙ ap (λ p. received read_as turn ++ ready_of p) c.in-Ready.is ∙ ap (λ l. l ++ v ∷ []) it.has;
      prelude = poll.prelude ∙ it.prelude;
      did = (
        poll.same ∙ (since before turn it.looked).0,
        rounds_since before turn after it.looked rounds,
        received_since read_as before turn after v it.looked gave,
        room_then before turn after v it.looked (room_polled turn after v room),
      );
    }

pub loop-preserved : goal.loop-preserved
loop-preserved g c =
    let turn = c.loop.subscription in
    let after = c.poll_next-polled.new.self in
    let it = c.loop.invariant in
    let poll = c.poll_next-polled.ensures in
    let made = subst (λ p. OnPending p (Made (round.Pending turn.number) turn.party after.party)) c.in_default-polled.is poll.round in
    let missed = subst (λ p. OnPending p (IsPast turn after × MissedTwice turn.reader after.reader)) c.in_default-polled.is poll.pending in record {
      has = poll.has ∙ ap (λ p. received g.T.Word.read_as turn ++ ready_of p) c.in_default-polled.is ∙ append-nil (received g.T.Word.read_as turn) ∙ it.has;
      prelude = poll.prelude ∙ it.prelude;
      looked = looked_on c.args.subscription.now turn after it.looked poll.same made missed.0 missed.1;
    }
