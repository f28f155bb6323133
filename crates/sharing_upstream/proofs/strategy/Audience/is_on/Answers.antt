use Rattle.std.proofs.Common.{rules}
use Rattle.sharing_upstream.proofs.strategy.Audience.is_on.Goals as goal

-- A wrong body makes these false: so answered, it is refused at once.
pub returns-in-Lazily : goal.returns-in-Lazily
returns-in-Lazily c = search rules

pub returns-in-Gone : goal.returns-in-Gone
returns-in-Gone c = search rules
