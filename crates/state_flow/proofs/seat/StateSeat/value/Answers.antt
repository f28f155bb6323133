use Rattle.std.proofs.Common.{rules}
use Rattle.state_flow.proofs.seat.StateSeat.value.Goals as goal

-- A wrong body makes this false: so answered, it is refused at once.
pub returns-clause-has : goal.returns-clause-has
returns-clause-has g c = search rules
