use Rattle.std.proofs.Common.{rules}
use Rattle.flow_buffer.proofs.steps.put.Goals as goal

-- A wrong body makes this false: so answered, it is refused at once.
pub returns-in-DropLatest-clause-fill : goal.returns-in-DropLatest-clause-fill
returns-in-DropLatest-clause-fill g c = search rules
