use Rattle.std.proofs.Common.{ap, ◌∙◌}
use Rattle.shared_flow.specs.Owners.{Owning}
use Rattle.shared_rounds.specs.Reach.{Party}
use Rattle.hot_callers.proofs.shared_calling.heard_at_once.Goals as goal

pub emitted_and_heard-heard-requires-clause-one_flow : goal.emitted_and_heard-heard-requires-clause-one_flow
emitted_and_heard-heard-requires-clause-one_flow g c =
    let admission = c.in_ok-subscription.ensures.begins in (
      admission.made.found.name,
      ap (λ (p : Party). p.flow) c.in-Ok.ensures.flow ∙ ap (λ (o : Owning). o.party.flow) c.in_ok-subscription.ensures.round ∙ admission.flow_is,
      ap (λ (p : Party). p.flow) c.in_ok-subscription.ensures.flow ∙ admission.flow_is,
      admission.admitted.5.1.of_lane,
    )
