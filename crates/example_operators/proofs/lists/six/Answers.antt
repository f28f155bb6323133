use Rattle.example_operators.proofs.lists.six.Goals as goal

pub returns : goal.returns
returns g c =
    let chosen = c.filter_map-chosen.ensures.exact _ (c.on_start.ensures.exact _ c.range.ensures.exact) in
    let passed = c.take_while-passed.ensures.exact _ (c.drop_while.ensures.exact _ chosen) in
    let flow = c.scan-flow.ensures.exact _ (c.on_empty.ensures.exact _ passed) in
    c.to_list.ensures.exact _ (λ t h. flow t (c.in_ok-start.ensures.gives t h))
