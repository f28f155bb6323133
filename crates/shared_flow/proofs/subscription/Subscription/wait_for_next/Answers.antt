use Rattle.std.proofs.Common.{[], ◌∷◌, ◌++◌, ap, ◌≡◌, ◌⊎◌, refl, sym, subst, ◌∙◌}
use Rattle.std.proofs.lemmas.List.{append-nil}
use Rattle.std.proofs.lemmas.Result.{err_from_is_err_and}
use Rattle.futures.specs.Poll.{IfReady, OnPending}
use Rattle.flow_terms.specs.Lists.{some_of}
use Rattle.shared_flow.specs.Parties.{received, ok_of, ready_of}
use Rattle.shared_rounds.specs.declared.round.Round.TheVariants as round
use Rattle.shared_rounds.specs.Entering.{Made}
use Rattle.shared_flow.specs.Looks.{GaveIn, MadeRoomIn, MissedTwice, once_more, by_none}
use Rattle.shared_flow.specs.Preludes.{IsGreeted, IsPast, GreetedOr}
use Rattle.shared_flow.proofs.Waiting.{only_next, only_pending, waited_on}
use Rattle.shared_flow.proofs.Receiving.{has_room, has_room_at_once, past_given, past_room}
use Rattle.shared_flow.proofs.subscription.Subscription.wait_for_next.Goals as goal

pub returns-in_err-begin-clause-rounds : goal.returns-in_err-begin-clause-rounds
returns-in_err-begin-clause-rounds g c = by_none c.args.self.now.party

pub returns-in_err-begin-clause-has : goal.returns-in_err-begin-clause-has
returns-in_err-begin-clause-has g c =
    let p = err_from_is_err_and c.from_residual.result c.from_residual.ensures.1 in
    let all = received g.T.Word.read_as c.args.self.now in
    sym (append-nil all) ∙ ap (λ l. all ++ l) (sym (ap ok_of p.1))

pub returns-in-Some : goal.returns-in-Some
returns-in-Some g c =
    let s = c.args.self.now in
    let t = c.next_soon.new.self in
    let given = past_given s t c.in-Some.value _ c.requires.past c.in-Some.ensures.given in record {
      has = c.next_soon.ensures.has ∙ ap (λ o. received g.T.Word.read_as s ++ some_of o) c.in-Some.is;
      prelude = c.next_soon.ensures.prelude;
      same = (c.next_soon.ensures.same, given.0.1 ∙ sym given.0.0);
      rounds = only_next _ _ _ _ _ refl (by_none s.party) c.next_soon.ensures.rounds;
      value = given.1;
      room = has_room_at_once s t (past_room s t c.in-Some.value _ c.requires.past c.in-Some.ensures.room);
      nothing = tt;
    }

pub loop-init : goal.loop-init
loop-init g c =
    let missed = c.in_default.ensures.missed in record {
      past = missed.0.1;
      has = c.next_soon.ensures.has ∙ ap (λ o. received g.T.Word.read_as c.args.self.now ++ some_of o) c.in_default.is ∙ append-nil (received g.T.Word.read_as c.args.self.now);
      prelude = c.next_soon.ensures.prelude;
      same = c.next_soon.ensures.same;
      rounds = only_next _ _ _ _ _ refl (by_none c.args.self.now.party) c.next_soon.ensures.rounds;
      missed = once_more _ _ _ missed.2.1 missed.2.2;
    }

pub returns-in-Ready : goal.returns-in-Ready
returns-in-Ready g c =
    let s = c.args.self.now in
    let m = c.loop.self in
    let t = c.poll_next-polled.new.self in
    let v = c.in-Ready.value in
    let it = c.loop.invariant in
    let poll = c.poll_next-polled.ensures in
    let read = g.T.Word.read_as in
    let given = past_given m t v _ it.past (subst (λ p. IfReady p (λ v. GreetedOr m v t (GaveIn read m.reader v t.reader))) c.in-Ready.is poll.ready) in
    let room = past_room m t v _ it.past (subst (λ p. IfReady p (λ v. IsGreeted m v t ⊎ MadeRoomIn m t)) c.in-Ready.is poll.room) in record {
      has = poll.has ∙ ap (λ p. received read m ++ ready_of p) c.in-Ready.is ∙ ap (λ l. l ++ v ∷ []) it.has;
      prelude = poll.prelude ∙ it.prelude;
      same = (poll.same ∙ it.same, given.0.1 ∙ sym c.requires.past);
      rounds = only_next _ _ _ _ _ it.same it.rounds (subst (λ p. IfReady p (λ v. (t.party ≡ m.party) ⊎ Made (round.Next m.number) m.party t.party)) c.in-Ready.is poll.rounds);
      value = waited_on read s.reader m.reader t.reader v it.missed given.1;
      room = has_room s m t it.same it.rounds room;
      nothing = tt;
    }

pub loop-preserved : goal.loop-preserved
loop-preserved g c =
    let s = c.args.self.now in
    let m = c.loop.self in
    let t = c.poll_next-polled.new.self in
    let it = c.loop.invariant in
    let poll = c.poll_next-polled.ensures in
    let pending = subst (λ p. OnPending p (IsPast m t × MissedTwice m.reader t.reader)) c.in_default-polled.is poll.pending in
    let twice = pending.1 in record {
      past = pending.0.1;
      has = poll.has ∙ ap (λ p. received g.T.Word.read_as m ++ ready_of p) c.in_default-polled.is ∙ append-nil (received g.T.Word.read_as m) ∙ it.has;
      prelude = poll.prelude ∙ it.prelude;
      same = poll.same ∙ it.same;
      rounds = only_pending _ _ _ _ _ it.same it.rounds (subst (λ p. OnPending p (Made (round.Pending m.number) m.party t.party)) c.in_default-polled.is poll.round);
      missed = once_more s.reader twice.0 t.reader (once_more s.reader m.reader twice.0 it.missed twice.1) twice.2;
    }
