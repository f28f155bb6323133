use Rattle.hillgauze_c.specs.LaneCalls.{IsFreshLane}
use Rattle.hillgauze_c.proofs.Making.{made, not_made}
use Rattle.hillgauze_c.proofs.exports.lane.hillgauze_lane_new.Goals as goal
use Rattle.std.proofs.Common.{refl, ◌∙◌}
use Rattle.hillgauze_c.specs.declared.object.Object.TheVariants.{Sequencer}

pub returns-in-Ok : goal.returns-in-Ok
returns-in-Ok c =
    made IsFreshLane c.args.config.now c.args.sequencer.now.object c.of_making.result _ (c.is_null.ensures.null c.if-not-is_null.false) c.in-Some.config c.in-Some.ensures _
    c.in-Ok.sequencing (Sequencer c.in-Ok.sequencing) c.make.result c.in-Ok.ensures.refused c.of_making.ensures c.make.ensures.made (λ none. c.make.ensures.left none ∙ c.is_null.ensures.same) (c.in-Ok.sequencing, refl, c.in-Ok.ensures.fresh)

pub returns-in-Err : goal.returns-in-Err
returns-in-Err c =
    not_made IsFreshLane c.args.config.now c.args.sequencer.now.object c.of_refusal.result _ (c.is_null.ensures.null c.if-not-is_null.false) c.in-Some.config c.in-Some.ensures _
    c.in-Err.refusal c.in-Err.ensures.refused c.in-Err.ensures.made c.of_refusal.ensures c.is_null.ensures.same
