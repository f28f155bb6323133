use Rattle.std.proofs.Common.{rules}
use Rattle.state_flow.proofs.seat.StateSeat+T+A.give_back.Goals as goal

-- A wrong body makes these false: so answered, it is refused at once.
pub invariant_of-self : goal.invariant_of-self
invariant_of-self g c = search rules

pub returns-clause-has : goal.returns-clause-has
returns-clause-has g c = search rules
