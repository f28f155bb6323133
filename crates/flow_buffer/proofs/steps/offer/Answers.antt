use Rattle.crossbeam_channel.specs.Claims.{view as knows}
use Rattle.flow_buffer.proofs.ChannelSteps.{sends_item, looks, was_full}
use Rattle.flow_buffer.proofs.steps.offer.Goals as goal

pub try_send_as-requires-clause-rule : goal.try_send_as-requires-clause-rule
try_send_as-requires-clause-rule g c = (sends_item _ _ _ (rw c.loop.invariant.1 c.requires.unended) _, looks _ _ (rw c.loop.invariant.1 c.requires.unended))

pub returns-in-Ok-clause-sent : goal.returns-in-Ok-clause-sent
returns-in-Ok-clause-sent g c = rw c.loop.invariant.1 at c.in-Ok.ensures.rule

pub returns-in-Err-Full-clause-sent : goal.returns-in-Err-Full-clause-sent
returns-in-Err-Full-clause-sent g c =
    let found = rw (c.in-Err-Full.field-0-is, c.loop.invariant.1) at c.in-Err-Full.ensures.rule in
    let full = was_full _ (knows c.args.pass.now) (found.2 tt) in
    (found.1, full.0, full.1)
