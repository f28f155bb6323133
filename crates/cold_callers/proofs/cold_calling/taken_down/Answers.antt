use Rattle.cold_callers.proofs.cold_calling.taken_down.Goals as goal

pub returns : goal.returns
returns c =
    let flow = c.in_ok-flow.ensures.exact _ (λ t h. h) in
    c.to_list.ensures.exact _ (λ t h. flow t (c.in_ok-start.ensures.gives t h))
