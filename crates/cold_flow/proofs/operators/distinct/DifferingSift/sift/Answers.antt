use Rattle.std.proofs.Common.{rules}
use Rattle.cold_flow.proofs.operators.distinct.DifferingSift.sift.Goals as goal

-- A wrong body makes these false: so answered, it is refused at once.
pub returns-then-is_same-clause-after : goal.returns-then-is_same-clause-after
returns-then-is_same-clause-after g c = search rules

pub returns-else-is_same-clause-after : goal.returns-else-is_same-clause-after
returns-else-is_same-clause-after g c = search rules
