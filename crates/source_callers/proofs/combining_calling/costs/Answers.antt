use Rattle.std.proofs.Common.{ap, sym, ◌∙◌, ⊎_elim}
use Rattle.state_flow.specs.Collected.{collected}
use Rattle.hot_sources.specs.BothLaws.{given_by_each}
use Rattle.hot_sources.specs.SoFarLaws.{took_all_so_far, took_to_end, passed_so_far, watched_so_far, received_so_far}
use Rattle.source_callers.proofs.Costing.{costed, costs_added, either_way, grew}
use Rattle.source_callers.proofs.Halving.{received_from, received_to}
use Rattle.source_callers.proofs.combining_calling.costs.Goals as goal

pub returns : goal.returns
returns g c =
    let ways = either_way c.in_ok-_end._end _ _ c.in_ok-_end.ensures.took in
    let took = ⊎_elim (λ all. took_all_so_far _ _ all) (λ it. took_to_end _ _ it.1.3 it.1.4 it.1.2) ways in
    let passed = passed_so_far took.2 (λ r. r.sift) (λ r. r.source) (λ q a p h. h.0) in
    let each = given_by_each passed.1 (λ r. r.ended.cause) (λ r. r.left) (λ r. r.right) (λ q a p h. h) in
    let price = watched_so_far each.0 (λ r. r.collector.ghost_name) (λ r. r.collector.now) (λ q a p h. h) in
    let orders = received_so_far each.1 _ (λ r. r.subscription.ghost_name) (λ r. r.subscription.now) (λ q a p h. h) in
    let sides = c.combine-chain.ensures.sides in
    let fresh = c.combine-chain.ensures.function in
    let price_began = ap (λ r. r.collector.now) sides.0 ∙ c.watching.ensures.collector in
    let price_named = ap (λ r. r.collector.ghost_name) sides.0 ∙ c.watching.ensures.same_reference in
    let orders_began = ap (λ r. r.subscription.now) sides.1 ∙ c.receiving.ensures.subscription in
    let orders_named = ap (λ r. r.subscription.ghost_name) sides.1 ∙ c.receiving.ensures.same_reference in
    let price_lent = c.price-1.given.1 (sym (price.0 ∙ price_named)) in
    let orders_lent = c.orders-1.given.1 (sym (orders.0 ∙ orders_named)) in
    let all = costed _ _ _ _ passed.0 took.0 (ap (λ s. s.first) fresh) (ap (λ s. s.second) fresh) passed.2 in (
      passed.0,
      costs_added _ _ took.0 passed.0 took.1 all,
      grew _ _ _ _ _ (ap collected price_lent) price.2 (ap collected price_began),
      received_to _ _ _ _ _ orders_lent (received_from _ _ _ _ _ orders_began orders.1),
    )
