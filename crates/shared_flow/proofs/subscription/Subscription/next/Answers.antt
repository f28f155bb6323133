use Rattle.std.proofs.Common.{◌++◌, ⊎_elim, inl, inr, refl, sym, ap, subst, ◌∙◌}
use Rattle.shared_flow.specs.Looks.{Missed, not_once, by_none}
use Rattle.std.proofs.lemmas.List.{append-nil}
use Rattle.flow_terms.specs.Lists.{some_of}
use Rattle.shared_flow.specs.Parties.{Subscribed, received, ok_of}
use Rattle.shared_rounds.proofs.Doing.{if_ok, if_err}
use Rattle.shared_flow.proofs.Waiting.{only_next, waited_before}
use Rattle.shared_flow.proofs.Receiving.{has_room_at_once, has_room_since, only_since}
use Rattle.shared_flow.proofs.subscription.Subscription.next.Goals as goal

pub wait_for_next-requires : goal.wait_for_next-requires
wait_for_next-requires g c = record { past = c.in-None.ensures.missed.0.1 }

pub returns-in-Some : goal.returns-in-Some
returns-in-Some g c =
    let s = c.args.self.now in
    let t = c.next_now.new.self in record {
      has = c.next_now.ensures.has ∙ ap (λ o. received g.T.Word.read_as s ++ some_of o) c.in-Some.is;
      prelude = c.next_now.ensures.prelude;
      same = c.next_now.ensures.same;
      rounds = only_next _ _ _ _ _ refl (by_none s.party) c.next_now.ensures.rounds;
      value = ⊎_elim (λ greeted. inl greeted) (λ it. inr (it.0, (s.reader, not_once s.reader, it.1))) c.in-Some.ensures.given;
      room = ⊎_elim (λ greeted. inl greeted) (λ made. inr (has_room_at_once s t made)) c.in-Some.ensures.room;
      nothing = tt;
    }

pub returns-in-None : goal.returns-in-None
returns-in-None g c =
    let s = c.args.self.now in
    let m = c.next_now.new.self in
    let t = c.wait_for_next.new.self in
    let missed = c.in-None.ensures.missed in
    let wait = c.wait_for_next.ensures in
    let rest = wait.same.1 ∙ missed.0.1 in record {
      has = wait.has ∙ ap (λ l. l ++ ok_of c.wait_for_next.result) (c.next_now.ensures.has ∙ ap (λ o. received g.T.Word.read_as s ++ some_of o) c.in-None.is ∙ append-nil (received g.T.Word.read_as s));
      prelude = wait.prelude ∙ c.next_now.ensures.prelude;
      same = wait.same.0 ∙ ap (λ (x : Subscribed _). x.number) missed.1;
      rounds = only_since s m t missed.1 wait.rounds;
      value = if_ok c.wait_for_next.result _ _ (λ v it. inr ((missed.0.0, rest), waited_before g.T.Word.read_as s.reader m.reader t.reader v missed.2 it)) wait.value;
      room = if_ok c.wait_for_next.result _ _ (λ v it. inr (has_room_since s m t missed.1 it)) wait.room;
      nothing = if_err c.wait_for_next.result _ _ (λ e it. (it.0, (missed.0.0, rest), subst (λ (x : Subscribed _). Missed s.reader x.reader) (sym it.1) missed.2)) wait.nothing;
    }
