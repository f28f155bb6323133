use Rattle.std.proofs.Common.{rules}
use Rattle.flow_buffer.proofs.ChannelSteps.{takes}
use Rattle.flow_buffer.proofs.steps.try_receive.Goals as goal

pub try_recv_as-requires-clause-rule : goal.try_recv_as-requires-clause-rule
try_recv_as-requires-clause-rule g c = (takes _ _ c.requires.unended, search rules)
