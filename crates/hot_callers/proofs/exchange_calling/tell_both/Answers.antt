use Rattle.std.proofs.Common.{rules, ◌≡◌, sym, ap, subst, ◌∙◌}
use Rattle.flow_terms.specs.Lists.{IsPrefix}
use Rattle.shared_rounds.specs.declared.round.Round.TheVariants as round
use Rattle.shared_flow.specs.Owners.{Owning, HasHeard}
use Rattle.shared_rounds.specs.Reach.{Party, Rounds}
use Rattle.shared_flow.proofs.Making.{made_since}
use Rattle.hot_callers.specs.Exchanges.{TellsBoth}
use Rattle.hot_callers.proofs.exchange_calling.tell_both.Goals as goal

pub returns : goal.returns
returns g c =
    let p = c.args.flow.now.party in
    let e = c.args.one.now in
    let f = c.tell_emitter.new.emitter in
    let d = c.args.two.now in
    let h = c.tell_emitter-2.new.emitter in
    let last = c.tell_emitter-2.new.self in
    let since : last.flow.now ≡ c.tell_emitter.new.self.flow.now = c.tell_emitter-2.ensures.owner in
    let owner : last.flow.now ≡ c.hold-held.result.flow.now = since ∙ c.tell_emitter.ensures.owner in
    let same : last.flow.now.party ≡ record p { seen = last.flow.now.party.seen } =
    ap (λ (o : Owning). o.party) owner ∙ c.hold-held.ensures.party ∙ ap (λ (o : Owning). record p { seen = o.party.seen }) (sym owner) in
    let on = subst (λ (o : Owning). IsPrefix p.seen o.party.seen) (sym owner) c.hold-held.ensures.seen in
    let it = c.release.ensures.made in
    let first = subst (λ (o : Owning). HasHeard o.party.seen e.party f.party) (sym owner) c.tell_emitter.ensures.heard in
    let second = subst (λ (o : Owning). HasHeard o.party.seen d.party h.party) (sym since) c.tell_emitter-2.ensures.heard in
    let both : TellsBoth p c.release.new.self.0.party e f d h = record {
      count = last.kept.count;
      made = made_since (round.Hold last.kept.count) p last.flow.now.party c.release.new.self.0.party same on it;
      first = subst (λ (l : Rounds). HasHeard l e.party f.party) (sym it.before_is) first;
      second = subst (λ (l : Rounds). HasHeard l d.party h.party) (sym it.before_is) second;
      only_first = c.tell_emitter.ensures.emitter;
      only_second = c.tell_emitter-2.ensures.emitter;
    } in
    subst (λ (x : Party). TellsBoth p x e f d h) (search rules) both
