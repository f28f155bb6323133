use Rattle.example_operators.proofs.lists.states.Goals as goal

pub returns : goal.returns
returns g c =
    let flow = c.take_while-flow.ensures.exact _ (c.scan.ensures.exact _ c.range.ensures.exact) in
    c.to_list.ensures.exact _ (λ t h. flow t (c.in_ok-start.ensures.gives t h))
