use Rattle.std.proofs.Common.{rules}
use Rattle.flow_sharing.proofs.flow_destination.Outlet.still_waits.Goals as goal

-- A wrong body makes this false: so answered, it is refused at once.
pub invariant_of-self : goal.invariant_of-self
invariant_of-self g c = search rules
