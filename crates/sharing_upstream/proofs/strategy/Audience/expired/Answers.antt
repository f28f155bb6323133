use Rattle.std.proofs.Common.{rules}
use Rattle.sharing_upstream.proofs.strategy.Audience.expired.Goals as goal

-- A wrong body makes this false: so answered, it is refused at once.
pub returns-in-Gone-clause-falls : goal.returns-in-Gone-clause-falls
returns-in-Gone-clause-falls c = search rules
