use Rattle.std.proofs.Common.{arith, [], ◌∷◌, ◌++◌, inl, inr, sym, ap, subst, ◌∙◌}
use Rattle.shared_flow.specs.Looks.{MissedOn, not_once, once_more}
use Rattle.std.proofs.lemmas.List.{append-nil}
use Rattle.flow_terms.specs.Lists.{some_of}
use Rattle.shared_flow.specs.Parties.{Subscribed, received}
use Rattle.shared_flow.proofs.Receiving.{looked_as, looked_twice, room_since, rounds_since, still}
use Rattle.shared_flow.proofs.Preludes.{prelude_looked}
use Rattle.shared_flow.proofs.subscription.Subscription.next_soon.Goals as goal

pub look-requires : goal.look-requires
look-requires g c = let it = c.loop-turn.invariant in record { past = ap (λ (x : Subscribed _). x.rest) it.looked ∙ it.past }

pub loop-turn-init : goal.loop-turn-init
loop-turn-init g c =
    let s = c.args.self.now in
    let greeted = c.greet.new.self in
    let is = still s greeted c.greet.ensures.same c.in_default.ensures.past c.in_default.ensures.kept in record {
      past = c.in_default.ensures.past.0;
      has = ap (received g.T.Word.read_as) is;
      looked = looked_as s greeted is;
      missed = subst (λ (x : Subscribed _). MissedOn s.reader x.reader) (sym is) (not_once s.reader);
      some = λ turns. absurd (omega arith);
    }

pub loop-turn-preserved : goal.loop-turn-preserved
loop-turn-preserved g c =
    let s = c.args.self.now in
    let m = c.loop-turn.self in
    let it = c.loop-turn.invariant in
    let missed = c.in_default-look.ensures.missed in record {
      past = it.past;
      has = c.look.ensures.has ∙ ap (λ o. received g.T.Word.read_as m ++ some_of o) c.in_default-look.is ∙ append-nil (received g.T.Word.read_as m) ∙ it.has;
      looked = looked_twice s m c.look.new.self it.looked missed.0;
      missed = once_more s.reader m.reader c.look.new.self.reader it.missed missed.1;
      some = λ _. (m.reader, it.missed, missed.1);
    }

pub returns-in-Some-look : goal.returns-in-Some-look
returns-in-Some-look g c =
    let s = c.args.self.now in
    let m = c.loop-turn.self in
    let t = c.look.new.self in
    let it = c.loop-turn.invariant in
    let look = c.look.ensures in record {
      has = look.has ∙ ap (λ o. received g.T.Word.read_as m ++ some_of o) c.in-Some-look.is ∙ ap (λ l. l ++ c.in-Some-look.value ∷ []) it.has;
      prelude = look.prelude ∙ prelude_looked s m it.looked;
      rounds = rounds_since s m t it.looked look.rounds;
      same = look.same.0 ∙ ap (λ (x : Subscribed _). x.number) it.looked;
      given = inr ((it.past, look.same.1 ∙ (ap (λ (x : Subscribed _). x.rest) it.looked ∙ it.past)), (m.reader, it.missed, c.in-Some-look.ensures.given));
      room = inr (room_since s m t it.looked c.in-Some-look.ensures.room);
      missed = tt;
    }

pub returns : goal.returns
returns g c =
    let s = c.args.self.now in
    let it = c.loop-turn.invariant in record {
      has = it.has ∙ sym (append-nil (received g.T.Word.read_as s));
      prelude = prelude_looked s c.loop-turn.self it.looked;
      rounds = inl (ap (λ (x : Subscribed _). x.party) it.looked);
      same = ap (λ (x : Subscribed _). x.number) it.looked;
      given = tt;
      room = tt;
      missed = ((it.past, ap (λ (x : Subscribed _). x.rest) it.looked ∙ it.past), it.looked, it.some (let last = c.loop-turn-test.false in omega arith));
    }

pub returns-in-Some-clause-has : goal.returns-in-Some-clause-has
returns-in-Some-clause-has g c = c.greet.ensures.has ∙ ap (λ o. received g.T.Word.read_as c.args.self.now ++ some_of o) c.in-Some.is
