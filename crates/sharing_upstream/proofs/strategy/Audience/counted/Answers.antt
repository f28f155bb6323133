use Rattle.std.proofs.Common.{rules}
use Rattle.sharing_upstream.proofs.strategy.Audience.counted.Goals as goal

-- A wrong body makes this false: so answered, it is refused at once.
pub returns-in-Gone : goal.returns-in-Gone
returns-in-Gone c = search rules
