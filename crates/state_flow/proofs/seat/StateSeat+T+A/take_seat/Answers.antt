use Rattle.std.proofs.Common.{rules}
use Rattle.state_flow.proofs.seat.StateSeat+T+A.take_seat.Goals as goal

-- A wrong body makes these false: so answered, it is refused at once.
pub invariant_of-self : goal.invariant_of-self
invariant_of-self g c = search rules

pub returns-clause-enough : goal.returns-clause-enough
returns-clause-enough g c = search rules

pub returns-then-share-spare-clause-refusals : goal.returns-then-share-spare-clause-refusals
returns-then-share-spare-clause-refusals g c = search rules
