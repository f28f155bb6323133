use Rattle.std.proofs.Common.{rules}
use Rattle.state_flow.proofs.seat.StateSeat+T+A.collect.Goals as goal

-- A wrong body makes these false: so answered, it is refused at once.
pub over-requires-clause-seated : goal.over-requires-clause-seated
over-requires-clause-seated g c = search rules

pub over-requires-clause-fresh : goal.over-requires-clause-fresh
over-requires-clause-fresh g c = search rules
