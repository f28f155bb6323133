use Rattle.std.proofs.Common.{arith}
use Rattle.std.proofs.lemmas.Grind.{common_steps}
use Rattle.flow_buffer.proofs.store.Store.put.Goals as goal

-- A wrong body makes this false: so answered, it is refused at once.
pub returns : goal.returns
returns g c = grind (arith, common_steps)
