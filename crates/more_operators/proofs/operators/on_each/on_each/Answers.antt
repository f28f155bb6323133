use Rattle.more_operators.proofs.operators.on_each.on_each.Goals as goal

pub returns-clause-exact : goal.returns-clause-exact
returns-clause-exact g c whole fixed = fixed
