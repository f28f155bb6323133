use Rattle.std.proofs.Common.{rules}
use Rattle.flow_buffer.proofs.store.Store.take.Goals as goal

-- A wrong body makes these false: so answered, it is refused at once.
pub returns-then-is_some : goal.returns-then-is_some
returns-then-is_some g c = search rules

pub returns-else-is_some : goal.returns-else-is_some
returns-else-is_some g c = search rules
