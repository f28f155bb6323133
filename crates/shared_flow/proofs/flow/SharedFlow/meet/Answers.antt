use Rattle.std.proofs.Common.{rules, ◌≡◌, sym, ap, subst, ◌∙◌}
use Rattle.flow_terms.specs.Lists.{IsPrefix}
use Rattle.shared_flow.specs.Owners.{Owning, HasHeard, Meets}
use Rattle.shared_rounds.specs.Reach.{Party}
use Rattle.shared_flow.proofs.Making.{meets}
use Rattle.shared_flow.proofs.flow.SharedFlow.meet.Goals as goal

pub returns-clause-meets : goal.returns-clause-meets
returns-clause-meets g c =
    subst (λ (x : Party). Meets c.args.self.now.party x c.args.subscription.now c.meet-met.new.subscription c.meet-met.result) (search rules) (
    let p = c.args.self.now.party in
    let last = c.meet-met.new.self in
    let owner : last.flow.now ≡ c.hold-held.result.flow.now = c.meet-met.ensures.owner ∙ c.tell_subscription.ensures.owner in
    let same : last.flow.now.party ≡ record p { seen = last.flow.now.party.seen } =
    ap (λ (o : Owning). o.party) owner ∙ c.hold-held.ensures.party ∙ ap (λ (o : Owning). record p { seen = o.party.seen }) (sym owner) in
    let on = subst (λ (o : Owning). IsPrefix p.seen o.party.seen) (sym owner) c.hold-held.ensures.seen in
    let told = subst (λ (o : Owning). HasHeard o.party.seen c.args.subscription.now.party c.tell_subscription.new.subscription.party) (sym owner) c.tell_subscription.ensures.heard in
    let met = meets p last.flow.now.party c.release.new.self.0.party c.args.subscription.now c.tell_subscription.new.subscription c.meet-met.new.subscription c.meet-met.result last.kept same on
    told c.tell_subscription.ensures.subscription c.meet-met.ensures.same c.meet-met.ensures.rest c.meet-met.ensures.met c.release.ensures.made in
    met)
