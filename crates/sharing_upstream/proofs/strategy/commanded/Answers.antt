use Rattle.std.proofs.Common.{rules}
use Rattle.sharing_upstream.proofs.strategy.commanded.Goals as goal

-- A wrong body makes these false: so answered, it is refused at once.
pub returns-then-not-on : goal.returns-then-not-on
returns-then-not-on c = search rules

pub returns-else-was_on : goal.returns-else-was_on
returns-else-was_on c = search rules
