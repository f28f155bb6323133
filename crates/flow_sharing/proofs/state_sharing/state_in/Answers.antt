use Rattle.std.proofs.Common.{rules}
use Rattle.flow_sharing.proofs.state_sharing.state_in.Goals as goal

-- A wrong body makes this false: so answered, it is refused at once.
pub returns-clause-has : goal.returns-clause-has
returns-clause-has g c = search rules
