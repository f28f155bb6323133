use Rattle.std.proofs.Common.{rules}
use Rattle.state_flow.proofs.seat.StateSeat.compare_and_set.Goals as goal

-- A wrong body makes this false: so answered, it is refused at once.
pub returns-clause-has : goal.returns-clause-has
returns-clause-has g c = search rules

pub returns-clause-alone : goal.returns-clause-alone
returns-clause-alone g c = rw (← c.self.view_is) (c.compare_exchange.ensures.alone c.self.invariant.untold)
