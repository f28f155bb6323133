use Rattle.std.proofs.Common.{arith, inl, refl}
use Rattle.flow_merge.specs.StandingLaws.{set-inserts}
use Rattle.flow_merge.proofs.flows.standing.stand_in_place.Goals as goal

pub returns-clause-stands : goal.returns-clause-stands
returns-clause-stands g c = inl (set-inserts _ _ _ (omega (arith, c.requires, c.args.runs.now.ok.0)), refl)
