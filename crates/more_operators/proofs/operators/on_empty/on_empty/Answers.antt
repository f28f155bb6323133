use Rattle.more_operators.specs.Empty.{empty_makes, empty_exactly}
use Rattle.more_operators.proofs.operators.on_empty.on_empty.Goals as goal

pub returns-clause-gives : goal.returns-clause-gives
returns-clause-gives g c = empty_makes c.args.values _ _ c.new.ensures.gives

pub returns-clause-exact : goal.returns-clause-exact
returns-clause-exact g c = empty_exactly c.args.values _ _ c.new.ensures.exact
