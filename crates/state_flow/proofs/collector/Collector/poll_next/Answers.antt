use Rattle.std.proofs.Common.{rules}
use Rattle.state_flow.proofs.collector.Collector.poll_next.Goals as goal

-- A wrong body makes these false: so answered, it is refused at once.
pub returns-in-Some-clause-asks : goal.returns-in-Some-clause-asks
returns-in-Some-clause-asks g c = search rules

pub returns-in-None-clause-armed : goal.returns-in-None-clause-armed
returns-in-None-clause-armed g c = search rules
