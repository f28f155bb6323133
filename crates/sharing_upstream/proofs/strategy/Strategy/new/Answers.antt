use Rattle.std.proofs.Common.{rules}
use Rattle.sharing_upstream.proofs.strategy.Strategy.new.Goals as goal

-- A wrong body makes this false: so answered, it is refused at once.
pub returns-clause-shows : goal.returns-clause-shows
returns-clause-shows c = search rules
