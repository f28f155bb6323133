use Rattle.std.proofs.Common.{refl, subst, ◌∙◌}
use Rattle.value_flows.specs.Emitting.{TriesOnce, not_once, once_more}
use Rattle.value_flows.specs.declared.received.Tried.TheVariants as tried
use Rattle.value_flows.proofs.Trying.{is_over}
use Rattle.value_flows.proofs.flow.ValueFlow.wait.Goals as goal

pub loop-init : goal.loop-init
loop-init g c = (not_once c.args.self.now, refl)

pub loop-preserved : goal.loop-preserved
loop-preserved g c =
    let before = c.loop.self in
    let after = c.attempt.new.self in
    let came = subst (λ t. TriesOnce c.loop.waiting before t after) c.in-Asleep.is c.attempt.ensures in
    (once_more c.args.self.now before after c.loop.invariant.0 came.1, came.0 ∙ c.loop.invariant.1)

pub returns-in-Over : goal.returns-in-Over
returns-in-Over g c =
    let before = c.loop.self in
    let after = c.attempt.new.self in
    let came = subst (λ t. TriesOnce c.loop.waiting before t after) c.in-Over.is c.attempt.ensures in
    let same = subst (λ v. TriesOnce v before (tried.Over c.in-Over.emitted) after) c.loop.invariant.1 came in
    is_over c.args.value c.args.self.now before after c.in-Over.emitted c.loop.invariant.0 same
