use Rattle.cold_callers.proofs.more_calling.six.Goals as goal

pub returns : goal.returns
returns g c =
    let late = c.drop_while-late.ensures.exact _ (c.distinct_by.ensures.exact _ c.range.ensures.exact) in
    let joined = c.running_reduce-joined.ensures.exact _ (c.filter_map.ensures.exact _ late) in
    let flow = c.on_start-flow.ensures.exact _ (c.take_while.ensures.exact _ joined) in
    c.to_list.ensures.exact _ (λ t h. flow t (c.in_ok-start.ensures.gives t h))
