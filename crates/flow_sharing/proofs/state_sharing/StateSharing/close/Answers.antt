use Rattle.std.proofs.Common.{rules}
use Rattle.flow_sharing.proofs.state_sharing.StateSharing.close.Goals as goal

-- A wrong body makes this false: so answered, it is refused at once.
pub returns : goal.returns
returns g c = search rules
