use Rattle.cold_callers.proofs.cold_calling.chain.Goals as goal

pub returns : goal.returns
returns g c =
    let numbers = c.drop_first-numbers.ensures.exact _ c.range.ensures.exact in
    let flow = c.in_ok-flow.ensures.exact _ (c.distinct.ensures.exact _ (c.filter.ensures.exact _ (c.map.ensures.exact _ numbers))) in
    c.to_list.ensures.exact _ (λ t h. flow t (c.in_ok-start.ensures.gives t h))
