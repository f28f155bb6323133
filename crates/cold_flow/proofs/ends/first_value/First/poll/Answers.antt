use Rattle.std.proofs.Common.{rules}
use Rattle.cold_flow.proofs.ends.first_value.First.poll.Goals as goal

-- A wrong body makes this false: so answered, it is refused at once.
pub returns-in-Ready-Value-clause-first : goal.returns-in-Ready-Value-clause-first
returns-in-Ready-Value-clause-first g c = search rules
