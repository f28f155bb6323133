use Rattle.std.proofs.Common.{[], inr, ◌∙◌, sym, ap, subst}
use Rattle.std.proofs.lemmas.List.{append-nil}
use Rattle.shared_flow.specs.Parties.{received, Subscribed}
use Rattle.shared_flow.specs.Looks.{OnlyNext, by_none}
use Rattle.shared_rounds.proofs.Doing.{if_ok}
use Rattle.shared_flow.proofs.subscription.Subscription.next_all.Goals as goal

pub returns-then-len-capacity-clause-rounds : goal.returns-then-len-capacity-clause-rounds
returns-then-len-capacity-clause-rounds g c = by_none c.args.self.now.party

pub returns-then-not-is_empty-clause-rounds : goal.returns-then-not-is_empty-clause-rounds
returns-then-not-is_empty-clause-rounds g c = subst (OnlyNext c.args.self.now.number c.args.self.now.party) (sym (ap (λ (s : Subscribed _). s.party) c.self.view_is)) (by_none c.args.self.now.party)

pub returns-then-len-capacity-clause-has : goal.returns-then-len-capacity-clause-has
returns-then-len-capacity-clause-has g c = ([], sym (append-nil c.args.out.now.items), sym (append-nil (received g.T.Word.read_as c.args.self.now)))

pub returns-clause-taken : goal.returns-clause-taken
returns-clause-taken g c =
    let past = ap (λ (s : Subscribed _). s.rest) (sym c.self.view_is) ∙ c.is_empty.ensures.0 c.if-not-is_empty.false in
    λ space. if_ok c.next_all_accepted.result _ _ (λ n it. (it.0, it.1, it.2, it.3, inr ((past, c.next_all_accepted.ensures.same.1 ∙ past), it.4))) (c.next_all_accepted.ensures.taken)
