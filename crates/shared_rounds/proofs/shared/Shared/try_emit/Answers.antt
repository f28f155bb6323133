use Rattle.std.proofs.Common.{rules, ◌≤◌, inl, refl, subst}
use Rattle.std.specs.Arc.{arc_value}
use Rattle.shared_lane.specs.Sequencers.{AfterScan, next}
use Rattle.shared_rounds.specs.declared.round.Round.TheVariants as round
use Rattle.shared_rounds.specs.Names.{SharedSeen}
use Rattle.shared_rounds.specs.Tries.{IfTried, TriedUnder}
use Rattle.shared_rounds.specs.Rounds.{Makes}
use Rattle.shared_rounds.proofs.Receipts.{tried_last, tried_later}
use Rattle.shared_rounds.proofs.Starting.{try_made, try_refusals, tried_under}
use Rattle.shared_rounds.proofs.shared.Shared.try_emit.Goals as goal

pub returns-clause-does : goal.returns-clause-does
returns-clause-does c =
    let made = subst (λ (s : SharedSeen). AfterScan s.sequencer (λ m. Makes s.name.lane m (round.Try c.args.emission c.try_emit.result) c.try_emit.new.self)) c.self.view_is
    (try_made (arc_value c.self.inside.track).lane c.self.inside.sequencer c.try_emit.new.self c.args.emission c.try_emit.result c.try_emit.ensures.refused c.try_emit.ensures.has) in
    (search rules, search rules, (made.0, made.1, made.2, made.3, made.4, (c.try_emit.new.self, made.5, (c.try_emit.new.self, inl refl, (refl, refl, refl, λ _. refl, λ _. refl)), tt)))

pub returns-clause-last : goal.returns-clause-last
returns-clause-last c =
    let lane = (arc_value c.self.inside.track).lane in
    tried_last lane c.self.inside.sequencer c.try_emit.new.self c.args.emission c.try_emit.result c.try_emit.ensures.same.1.1
    (try_made lane c.self.inside.sequencer c.try_emit.new.self c.args.emission c.try_emit.result c.try_emit.ensures.refused c.try_emit.ensures.has)

pub returns-clause-later : goal.returns-clause-later
returns-clause-later c =
    let lane = (arc_value c.self.inside.track).lane in
    subst (λ (s : SharedSeen). IfTried c.try_emit.result (λ n. next s.sequencer ≤ n)) c.self.view_is
    (tried_later lane c.self.inside.sequencer c.try_emit.new.self c.args.emission c.try_emit.result
    (try_made lane c.self.inside.sequencer c.try_emit.new.self c.args.emission c.try_emit.result c.try_emit.ensures.refused c.try_emit.ensures.has))

pub returns-clause-refused : goal.returns-clause-refused
returns-clause-refused c = try_refusals c.self.inside.sequencer c.try_emit.new.self c.try_emit.result c.try_emit.ensures.refused

pub returns-clause-policy : goal.returns-clause-policy
returns-clause-policy c = subst (λ (s : SharedSeen). TriedUnder s.name.config.policy c.try_emit.result) c.self.view_is
    (tried_under (arc_value c.self.inside.track).lane c.self.inside.sequencer c.try_emit.new.self c.args.emission c.self.inside.config.policy c.try_emit.result c.self.invariant.0.1.0 c.try_emit.ensures.has)
