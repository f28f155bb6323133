use Rattle.std.proofs.Common.{rules}
use Rattle.flow_merge.proofs.flows.side.Side.ask.Goals as goal

-- A wrong body makes this false: so answered, it is refused at once.
pub returns-in-Ready-Value-clause-brings : goal.returns-in-Ready-Value-clause-brings
returns-in-Ready-Value-clause-brings g c = search rules
