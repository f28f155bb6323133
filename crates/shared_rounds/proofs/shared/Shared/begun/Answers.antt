use Rattle.std.proofs.Common.{subst}
use Rattle.std.specs.Arc.{arc_value}
use Rattle.shared_rounds.specs.declared.round.Round.TheVariants as round
use Rattle.shared_rounds.specs.Names.{SharedSeen}
use Rattle.shared_rounds.specs.Tries.{BegunUnder}
use Rattle.shared_rounds.specs.Rounds.{Makes}
use Rattle.shared_lane.specs.Sequencers.{AfterScan}
use Rattle.shared_rounds.proofs.Starting.{start_made, start_refusals, begun_under}
use Rattle.shared_rounds.proofs.shared.Shared.begun.Goals as goal

pub returns-clause-made : goal.returns-clause-made
returns-clause-made c = subst (λ (s : SharedSeen). AfterScan s.sequencer (λ m. Makes s.name.lane m (round.Start c.args.emission c.start_emit.result) c.start_emit.new.self)) c.self.view_is
    (start_made (arc_value c.self.inside.track).lane c.self.inside.sequencer c.start_emit.new.self c.args.emission c.start_emit.result c.start_emit.ensures.refused c.start_emit.ensures.has)

pub returns-clause-refused : goal.returns-clause-refused
returns-clause-refused c = start_refusals c.self.inside.sequencer c.start_emit.new.self c.start_emit.result c.start_emit.ensures.refused

pub returns-clause-policy : goal.returns-clause-policy
returns-clause-policy c = subst (λ (s : SharedSeen). BegunUnder s.name.config.policy c.start_emit.result) c.self.view_is
    (begun_under (arc_value c.self.inside.track).lane c.self.inside.sequencer c.start_emit.new.self c.args.emission c.self.inside.config.policy c.start_emit.result c.self.invariant.0.1.0 c.start_emit.ensures.has)
