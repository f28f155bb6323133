use Rattle.std.proofs.Common.{ap, rules, ◌∙◌}
use Rattle.shared_flow.specs.Owners.{Owning}
use Rattle.flow_sharing.proofs.share.share_in.Goals as goal

-- A wrong body makes this false: so answered, it is refused at once.
pub over-requires-clause-id : goal.over-requires-clause-id
over-requires-clause-id g c = search rules

-- another owner was made, which could make no emitter: both have half the share still
pub take_back-requires-clause-half : goal.take_back-requires-clause-half
take_back-requires-clause-half g c = (
  c.args.flow.now.party.halved,
  ap (λ (o : Owning). o.party.halved) (c.in-Err.ensures.same ∙ c.in_ok-owner.ensures.other),
  ap (λ (o : Owning). o.party.halved) c.in_ok-owner.ensures.half,
)
