use Rattle.cold_flow.specs.Laws.{Through-fixed}
use Rattle.cold_flow.specs.TakeLaws.{take-monotone}
use Rattle.cold_flow.proofs.operators.take.take.Goals as goal
use Rattle.std.proofs.Common.{rules}

pub returns-clause-exact : goal.returns-clause-exact
returns-clause-exact g c whole fixed = Through-fixed _ (take-monotone c.args.count) _ whole fixed

-- A wrong body makes this false: so answered, it is refused at once.
pub invariant_of-result : goal.invariant_of-result
invariant_of-result g c = search rules
