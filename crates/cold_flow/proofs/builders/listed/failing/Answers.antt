use Rattle.std.proofs.Common.{rules}
use Rattle.cold_flow.proofs.builders.listed.failing.Goals as goal

-- A wrong body makes this false: so answered, it is refused at once.
pub returns-clause-exact : goal.returns-clause-exact
returns-clause-exact g c = search rules
