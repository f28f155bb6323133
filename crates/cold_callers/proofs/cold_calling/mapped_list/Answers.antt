use Rattle.cold_callers.proofs.cold_calling.mapped_list.Goals as goal

pub returns : goal.returns
returns g c =
    let flow = c.map-flow.ensures.exact _ c.of.ensures.exact in
    c.to_list.ensures.exact _ (λ t h. flow t (c.in_ok-start.ensures.gives t h))
