use Rattle.std.proofs.Common.{rules}
use Rattle.flow_sharing.proofs.state_destination.StateDestinationDestination.reset.Goals as goal

-- A wrong body makes this false: so answered, it is refused at once.
pub returns-clause-resets : goal.returns-clause-resets
returns-clause-resets g c = search rules
