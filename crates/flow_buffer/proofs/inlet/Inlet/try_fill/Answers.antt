use Rattle.std.proofs.Common.{refl}
use Rattle.crossbeam_channel.specs.Claims.{view as knows}
use Rattle.crossbeam_channel.specs.Ends.{sends_on, receives_on, ruled_capacity}
use Rattle.flow_terms.specs.declared.fill.Fill.TheVariants.{Took}
use Rattle.flow_buffer.specs.Sides.{may_drop}
use Rattle.flow_buffer.proofs.Counts.{keeps}
use Rattle.flow_buffer.proofs.Feeds.{fed}
use Rattle.flow_buffer.proofs.Fills.{open_sent, joins}
use Rattle.flow_buffer.proofs.inlet.Inlet.try_fill.Goals as goal

pub invariant_of-self : goal.invariant_of-self
invariant_of-self g c =
    let unsent = rw (← c.self.view_is) at c.requires.unended in
    let was = rw unsent at c.self.invariant.2 in
    let sent = rw c.if-offer.true at c.offer.ensures.sent in
    let v = knows c.self.inside.pass in
    let w = knows c.offer.new.pass in
    fed (sends_on c.self.inside.sender) (receives_on c.self.inside.receiver) c.self.inside.policy c.self.inside.pass c.offer.new.pass _ _ _ _ c.self.invariant unsent
    c.offer.ensures.channel (open_sent (may_drop c.self.inside.policy) v w c.args.value was sent)
    (keeps (ruled_capacity (sends_on c.self.inside.sender)) c.self.inside.policy v.produced c.args.value Took w.produced (joins v w c.args.value sent) refl _ c.self.invariant.3)
