use Rattle.flow_buffer.proofs.ChannelSteps.{sends_item, looks}
use Rattle.flow_buffer.proofs.steps.send.Goals as goal

pub send_as-requires-clause-rule : goal.send_as-requires-clause-rule
send_as-requires-clause-rule g c = (sends_item _ _ _ (rw c.loop.invariant.1 c.requires.unended) _, looks _ _ (rw c.loop.invariant.1 c.requires.unended))
