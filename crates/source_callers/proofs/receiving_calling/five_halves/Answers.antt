use Rattle.std.proofs.Common.{List, ℕ, ◌++◌, length, refl, ap, sym, ◌∙◌}
use Rattle.cold_flow.specs.PassingLaws.{passed_all}
use Rattle.hot_sources.specs.ReceivingLaws.{received_all}
use Rattle.source_callers.proofs.Halving.{halved, never-ended, at_none, at_some, inside, received_from, received_to}
use Rattle.source_callers.proofs.receiving_calling.five_halves.Goals as goal

pub returns : goal.returns
returns g c =
    let took = at_none _ _ _ c.in-None.is c.in_ok-take_of.ensures.took in
    let mapped = passed_all took.3 (λ r. r.sift) (λ r. r.source) (λ q a p h. h.0) in
    let filtered = passed_all mapped.1 (λ r. r.sift) (λ r. r.source) (λ q a p h. h.0) in
    let received = received_all filtered.1 _ (λ r. r.subscription.ghost_name) (λ r. r.subscription.now) (λ q a p h. h) in
    let began =
    inside c.map-chain.result c.filter.result c.receiving.result (λ q. q.source) (λ r. r.source) (λ s. s.subscription.now) c.args.news.now
    c.map-chain.ensures.0 c.filter.ensures.0 c.receiving.ensures.subscription in
    let named =
    inside c.map-chain.result c.filter.result c.receiving.result (λ q. q.source) (λ r. r.source) (λ s. s.subscription.ghost_name) c.receiving-arg-1.given
    c.map-chain.ensures.0 c.filter.ensures.0 c.receiving.ensures.same_reference in
    let lent = c.news-1.given.1 (sym (received.0 ∙ named)) in
    let same = halved filtered.0 mapped.0 took.0 filtered.2 mapped.2 in (
      filtered.0,
      received_to _ _ _ _ filtered.0 lent (received_from _ _ _ _ filtered.0 began received.1),
      took.1 ∙ ap (λ (l : List ℕ). c.args.out.now.items ++ l) (sym same),
      ap length same ∙ took.2,
    )

pub unreachable-requires : goal.unreachable-requires
unreachable-requires g c =
    let took = at_some _ _ _ _ c.in-Some.is c.in_ok-take_of.ensures.took in
    let going =
    inside c.map-chain.result c.filter.result c.receiving.result (λ q. q.source) (λ r. r.source) (λ s. s.ended.cause) _
    c.map-chain.ensures.0 c.filter.ensures.0 c.receiving.ensures.fresh in
    never-ended _ going _ _ took.0 _ took.5
