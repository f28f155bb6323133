use Rattle.std.proofs.Common.{◌≡◌, sym, ap, subst, ◌∙◌}
use Rattle.flow_terms.specs.Lists.{IsPrefix}
use Rattle.shared_flow.specs.Owners.{Owning, HasHeard}
use Rattle.shared_rounds.specs.Reach.{Party, Rounds}
use Rattle.shared_flow.proofs.Making.{meets}
use Rattle.hot_callers.specs.Exchanges.{MeetsBoth}
use Rattle.hot_callers.proofs.exchange_calling.meet_both.Goals as goal

pub returns : goal.returns
returns g c =
    let p = c.args.flow.now.party in
    let e = c.args.emitter.now in
    let f = c.tell_emitter.new.emitter in
    let s = c.args.subscription.now in
    let m = c.tell_subscription.new.subscription in
    let t = c.meet-met.new.subscription in
    let last = c.meet-met.new.self in
    let since : last.flow.now ≡ c.tell_emitter.new.self.flow.now = c.meet-met.ensures.owner ∙ c.tell_subscription.ensures.owner in
    let owner : last.flow.now ≡ c.hold-held.result.flow.now = since ∙ c.tell_emitter.ensures.owner in
    let same : last.flow.now.party ≡ record p { seen = last.flow.now.party.seen } =
    ap (λ (o : Owning). o.party) owner ∙ c.hold-held.ensures.party ∙ ap (λ (o : Owning). record p { seen = o.party.seen }) (sym owner) in
    let on = subst (λ (o : Owning). IsPrefix p.seen o.party.seen) (sym owner) c.hold-held.ensures.seen in
    let told = subst (λ (o : Owning). HasHeard o.party.seen s.party m.party) (sym since) c.tell_subscription.ensures.heard in
    let it = c.release.ensures.made in
    let heard = subst (λ (o : Owning). HasHeard o.party.seen e.party f.party) (sym owner) c.tell_emitter.ensures.heard in
    let both : MeetsBoth p c.release.new.self.0.party e f s t = record {
      counts = c.meet-met.result;
      meets = meets p last.flow.now.party c.release.new.self.0.party s m t c.meet-met.result last.kept same on told c.tell_subscription.ensures.subscription
          c.meet-met.ensures.same c.meet-met.ensures.rest c.meet-met.ensures.met it;
      emitter = subst (λ (l : Rounds). HasHeard l e.party f.party) (sym it.before_is) heard;
      only = c.tell_emitter.ensures.emitter;
    } in
    let same_reference = c.meet-met.ensures.same_reference ∙ c.tell_subscription.ensures.same_reference ∙ c.tell_emitter.ensures.same_reference
    ∙ c.hold-held.ensures.same_reference in
    -- named, since `search` enters no more than 128 records, and those of the round come first
    let left = c.flow-1.given.1 (sym same_reference) in
    subst (λ (x : Party). MeetsBoth p x e f s t) (sym (ap (λ (o : Owning). o.party) left)) both
