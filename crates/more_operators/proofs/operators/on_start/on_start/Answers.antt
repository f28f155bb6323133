use Rattle.more_operators.specs.Empty.{start_makes, start_exactly}
use Rattle.more_operators.proofs.operators.on_start.on_start.Goals as goal

pub returns-clause-gives : goal.returns-clause-gives
returns-clause-gives g c = start_makes _ _ c.args.first _ _ c.new.ensures.gives

pub returns-clause-exact : goal.returns-clause-exact
returns-clause-exact g c = start_exactly _ _ c.args.first _ _ c.new.ensures.exact
