use Rattle.std.proofs.Common.{rules}
use Rattle.flow_buffer.proofs.ChannelSteps.{overwrites_as}
use Rattle.flow_buffer.proofs.steps.drop_oldest.Goals as goal

pub try_recv_as-requires-clause-rule : goal.try_recv_as-requires-clause-rule
try_recv_as-requires-clause-rule g c = (overwrites_as _ _ c.requires.unended, search rules)
