use Rattle.cold_flow.specs.Laws.{Through-fixed}
use Rattle.more_operators.specs.While.{while-monotone}
use Rattle.more_operators.proofs.operators.take_while.take_while.Goals as goal

pub returns-clause-exact : goal.returns-clause-exact
returns-clause-exact g c whole fixed = Through-fixed _ (while-monotone (g.G.Apply.gives c.args.test)) _ whole fixed
