use Rattle.more_operators.specs.TransformWhile.{while_makes, while_exactly}
use Rattle.more_operators.proofs.operators.transform_while.transform_while.Goals as goal

pub returns-clause-gives : goal.returns-clause-gives
returns-clause-gives g c = while_makes _ _ _ _ c.new.ensures.gives

pub returns-clause-exact : goal.returns-clause-exact
returns-clause-exact g c = while_exactly _ _ _ _ c.new.ensures.exact
