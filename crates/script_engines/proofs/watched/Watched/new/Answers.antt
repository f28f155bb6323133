use Rattle.std.proofs.Common.{rules}
use Rattle.script_engines.proofs.watched.Watched.new.Goals as goal

-- A wrong body makes these false: so answered, it is refused at once.
pub returns-clause-opens : goal.returns-clause-opens
returns-clause-opens c = search rules

pub invariant_of-result : goal.invariant_of-result
invariant_of-result c = search rules
