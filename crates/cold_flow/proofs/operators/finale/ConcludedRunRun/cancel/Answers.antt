use Rattle.std.proofs.Common.{rules}
use Rattle.cold_flow.proofs.operators.finale.ConcludedRunRun.cancel.Goals as goal

-- A wrong body makes this false: so answered, it is refused at once.
pub returns-clause-tells : goal.returns-clause-tells
returns-clause-tells g c = search rules
