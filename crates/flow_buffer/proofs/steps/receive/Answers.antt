use Rattle.std.proofs.Common.{rules}
use Rattle.flow_buffer.proofs.ChannelSteps.{takes}
use Rattle.flow_buffer.proofs.steps.receive.Goals as goal

pub recv_as-requires-clause-rule : goal.recv_as-requires-clause-rule
recv_as-requires-clause-rule g c = (takes _ _ (rw c.loop.invariant.1 c.requires.unended), search rules)
