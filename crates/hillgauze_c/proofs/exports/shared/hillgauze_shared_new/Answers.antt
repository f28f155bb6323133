use Rattle.hillgauze_c.specs.SharedCalls.{IsFreshFlow}
use Rattle.hillgauze_c.proofs.Making.{made, not_made}
use Rattle.hillgauze_c.proofs.exports.shared.hillgauze_shared_new.Goals as goal
use Rattle.std.proofs.Common.{refl, ◌∙◌}
use Rattle.hillgauze_c.specs.declared.object.Object.TheVariants.{Shared}

pub returns-in-Ok : goal.returns-in-Ok
returns-in-Ok c =
    made IsFreshFlow c.args.config.now c.args.flow.now.object c.of_making.result _ (c.is_null.ensures.null c.if-not-is_null.false) c.in-Some.config c.in-Some.ensures _
    c.in-Ok.shared (Shared c.in-Ok.shared) c.make.result c.in-Ok.ensures.refused c.of_making.ensures c.make.ensures.made (λ none. c.make.ensures.left none ∙ c.is_null.ensures.same) (c.in-Ok.shared, refl, c.in-Ok.ensures.shows)

pub returns-in-Err : goal.returns-in-Err
returns-in-Err c =
    not_made IsFreshFlow c.args.config.now c.args.flow.now.object c.of_refusal.result _ (c.is_null.ensures.null c.if-not-is_null.false) c.in-Some.config c.in-Some.ensures _
    c.in-Err.refusal c.in-Err.ensures.refused c.in-Err.ensures.made c.of_refusal.ensures c.is_null.ensures.same
