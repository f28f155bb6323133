use Rattle.cold_callers.proofs.more_calling.in_chunks.Goals as goal

pub returns : goal.returns
returns g c =
    let flow = c.in_ok-flow.ensures.exact _ (c.filter.ensures.exact _ c.range.ensures.exact) in
    c.to_list.ensures.exact _ (λ t h. flow t (c.in_ok-start.ensures.gives t h))
