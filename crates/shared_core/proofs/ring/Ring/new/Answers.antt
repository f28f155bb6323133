use Rattle.std.proofs.Common.{rules}
use Rattle.shared_core.proofs.ring.Ring.new.Goals as goal

-- A wrong body makes these false: so answered, it is refused at once.
pub invariant_of-result : goal.invariant_of-result
invariant_of-result g c = search rules

pub returns : goal.returns
returns g c = search rules
