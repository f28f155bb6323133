use Rattle.std.proofs.Common.{rules}
use Rattle.flow_buffer.proofs.feed.Feed.pump.Goals as goal

-- A wrong body makes these false: so answered, it is refused at once.
pub returns-in-Ready-Value-clause-pumps : goal.returns-in-Ready-Value-clause-pumps
returns-in-Ready-Value-clause-pumps g c = search rules

pub returns-in-Ready-Value-clause-armed : goal.returns-in-Ready-Value-clause-armed
returns-in-Ready-Value-clause-armed g c = search rules
