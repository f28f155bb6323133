use Rattle.std.proofs.Common.{refl, subst, inl}
use Rattle.shared_core.specs.Calls as calls
use Rattle.shared_core.specs.Shown.{Follows}
use Rattle.hillgauze_c.specs.declared.object.Object.TheVariants.{Shared}
use Rattle.hillgauze_c.specs.Kinds.{shared_of}
use Rattle.hillgauze_c.specs.SharedCalls.{SubscribesWith}
use Rattle.hillgauze_c.proofs.Handled.{on_part}
use Rattle.hillgauze_c.proofs.exports.shared.hillgauze_shared_subscribe_with.Goals as goal

pub returns-in-Ok : goal.returns-in-Ok
returns-in-Ok c =
    let flow = c.in-Some-shared.shared.now in
    let called = subst (λ values. Follows (calls.subscribe_with values) flow c.subscribe_with.result c.subscribe_with.new.self) c.in-Ok.ensures.held c.subscribe_with.ensures in
    on_part shared_of Shared (SubscribesWith c.args.values.now) c.args.flow.now.object c.of_subscription.result _ c.in-Some.object.now c.in-Some.ensures.object
    flow c.subscribe_with.new.self c.in-Some-shared.ensures.kind refl (inl (c.in-Ok.ensures.fits.0 refl, (c.subscribe_with.result, c.of_subscription.ensures, called)))
