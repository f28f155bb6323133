use Rattle.cold_callers.proofs.merge_calling.zipped_lists.Goals as goal

pub returns : goal.returns
returns g c =
    let flow = c.zip-flow.ensures.exact _ _ c.of.ensures.exact c.of-2.ensures.exact in
    c.to_list.ensures.exact _ (λ t h. flow t (c.in_ok-start.ensures.gives t h))
