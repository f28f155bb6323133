use Rattle.std.proofs.Common.{rules, false, true}
use Rattle.flow_buffer.proofs.ChannelSteps.{begins, cuts_as}
use Rattle.flow_buffer.proofs.splitting.split.Goals as goal

pub bounded_with-requires-clause-rule : goal.bounded_with-requires-clause-rule
bounded_with-requires-clause-rule g c = begins

pub another-knowledge-requires-clause-rule : goal.another-knowledge-requires-clause-rule
another-knowledge-requires-clause-rule g c = cuts_as _ false _ (search rules)

pub another-knowledge-requires-in-DropOldest : goal.another-knowledge-requires-in-DropOldest
another-knowledge-requires-in-DropOldest g c = record { channel = search rules; rule = cuts_as _ true _ (search rules) }

-- A wrong body makes these false: so answered, it is refused at once.
pub new-inlet-requires-clause-fresh : goal.new-inlet-requires-clause-fresh
new-inlet-requires-clause-fresh g c = search rules

pub returns-clause-drain : goal.returns-clause-drain
returns-clause-drain g c = search rules
