use Rattle.std.proofs.Common.{sym, ◌∙◌}
use Rattle.crossbeam_channel.specs.Ends.{sends_on, receives_on}
use Rattle.flow_buffer.proofs.Counts.{loses, keeps}
use Rattle.flow_buffer.proofs.Feeds.{fed}
use Rattle.flow_buffer.proofs.inlet.Inlet.fill.Goals as goal

pub invariant_of-self : goal.invariant_of-self
invariant_of-self g c =
    let unsent = rw (← c.self.view_is) at c.requires.unended in
    fed (sends_on c.self.inside.sender) (receives_on c.self.inside.receiver) c.self.inside.policy c.self.inside.pass c.put-fill.new.pass _ _ _ _ c.self.invariant unsent
    c.put-fill.ensures.channel c.put-fill.ensures.unended
    (loses _ _ _ _ _ _ c.put-fill.ensures.fill (sym c.is_loss.ensures ∙ c.if-is_loss.true) _ _ c.self.invariant.3 c.saturating_add-self-inside.ensures)

pub invariant_of-self-else-is_loss : goal.invariant_of-self-else-is_loss
invariant_of-self-else-is_loss g c =
    let unsent = rw (← c.self.view_is) at c.requires.unended in
    fed (sends_on c.self.inside.sender) (receives_on c.self.inside.receiver) c.self.inside.policy c.self.inside.pass c.put-fill.new.pass _ _ _ _ c.self.invariant unsent
    c.put-fill.ensures.channel c.put-fill.ensures.unended
    (keeps _ _ _ _ _ _ c.put-fill.ensures.fill (sym c.is_loss.ensures ∙ c.if-is_loss.false) _ c.self.invariant.3)
