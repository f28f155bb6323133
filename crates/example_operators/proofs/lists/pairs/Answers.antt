use Rattle.example_operators.proofs.lists.pairs.Goals as goal

pub returns : goal.returns
returns c =
    let flow = c.zip_with_next-flow.ensures.exact _ c.range.ensures.exact in
    c.to_list.ensures.exact _ (λ t h. flow t (c.in_ok-start.ensures.gives t h))
