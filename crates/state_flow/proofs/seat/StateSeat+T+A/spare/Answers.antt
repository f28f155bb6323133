use Rattle.std.proofs.Common.{rules}
use Rattle.state_flow.proofs.seat.StateSeat+T+A.spare.Goals as goal

-- A wrong body makes this false: so answered, it is refused at once.
pub returns : goal.returns
returns g c = search rules
