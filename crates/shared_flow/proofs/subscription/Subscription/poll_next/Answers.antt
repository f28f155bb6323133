use Rattle.std.proofs.Common.{◌++◌, ⊎_elim, inl, inr, ap, ◌∙◌}
use Rattle.std.proofs.lemmas.List.{append-nil}
use Rattle.flow_terms.specs.Lists.{some_of}
use Rattle.shared_flow.specs.Parties.{Subscribed, received, ready_of}
use Rattle.shared_flow.proofs.Receiving.{if_both, if_ready, missed_since, on_pending, pending_since, within_since}
use Rattle.shared_flow.proofs.subscription.Subscription.poll_next.Goals as goal

pub returns-in-Some-clause-ready : goal.returns-in-Some-clause-ready
returns-in-Some-clause-ready g c = ⊎_elim (λ greeted. inl greeted) (λ it. inr (it.0, inl it.1)) c.in-Some.ensures.given

pub returns-in-Some-clause-room : goal.returns-in-Some-clause-room
returns-in-Some-clause-room g c = ⊎_elim (λ greeted. inl greeted) (λ made. inr (inl made)) c.in-Some.ensures.room

pub returns-in-None : goal.returns-in-None
returns-in-None g c =
    let s = c.args.self.now in
    let m = c.next_now.new.self in
    let t = c.look_again.new.self in
    let missed = c.in-None.ensures.missed in
    let rest = c.look_again.ensures.same.1 ∙ missed.0.1 in record {
      has = c.look_again.ensures.has ∙ ap (λ l. l ++ ready_of c.look_again.result) (c.next_now.ensures.has ∙ ap (λ o. received g.T.Word.read_as s ++ some_of o) c.in-None.is ∙ append-nil (received g.T.Word.read_as s));
      prelude = c.look_again.ensures.prelude ∙ c.next_now.ensures.prelude;
      round = on_pending c.look_again.result _ _ (λ it. pending_since s m t missed.1 it) c.look_again.ensures.round;
      rounds = if_ready c.look_again.result _ _ (λ v it. inr (within_since s m t missed.1 it).made) c.look_again.ensures.within;
      same = c.look_again.ensures.same.0 ∙ ap (λ (x : Subscribed _). x.number) missed.1;
      ready = if_ready c.look_again.result _ _ (λ v it. inr ((missed.0.0, rest), inr (m.reader, missed.2, it))) c.look_again.ensures.ready;
      room = if_both c.look_again.result _ _ _
          (λ v gave it. inr (inr (m.reader, gave.0, missed.2, gave.2, within_since s m t missed.1 it, c.look_again.ensures.same.2 ∙ ap (λ (x : Subscribed _). x.looks) missed.1)))
          c.look_again.ensures.ready c.look_again.ensures.within;
      pending = on_pending c.look_again.result _ _ (λ it. ((missed.0.0, rest), (m.reader, missed.2, it))) c.look_again.ensures.pending;
      nothing = on_pending c.look_again.result _ _ (λ it. (m.reader, missed.2, missed_since s m t missed.1 it)) c.look_again.ensures.nothing;
      armed = c.look_again.ensures.armed;
      kept = c.look_again.ensures.kept;
    }

pub look_again-requires : goal.look_again-requires
look_again-requires g c = record { past = c.in-None.ensures.missed.0.1 }

pub returns-in-Some-clause-has : goal.returns-in-Some-clause-has
returns-in-Some-clause-has g c = c.next_now.ensures.has ∙ ap (λ o. received g.T.Word.read_as c.args.self.now ++ some_of o) c.in-Some.is
