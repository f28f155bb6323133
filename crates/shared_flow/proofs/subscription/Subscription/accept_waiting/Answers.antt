use Rattle.shared_rounds.specs.declared.round.Round.TheVariants as round
use Rattle.shared_flow.proofs.Making.{made}
use Rattle.shared_flow.proofs.subscription.Subscription.accept_waiting.Goals as goal

pub returns-clause-made : goal.returns-clause-made
returns-clause-made g c =
    rw (← c.self.view_is) (made (round.Next c.self.inside.number) c.self.inside.access c.enter-inside.new.self c.leave.new.self c.enter-inside.result.shared.value c.enter-inside.ensures.taken c.enter-inside.ensures.found c.leave.ensures.left)
