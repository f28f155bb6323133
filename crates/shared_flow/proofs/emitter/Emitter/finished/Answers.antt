use Rattle.std.proofs.Common.{◌≡◌, refl, ap, subst, ◌∙◌}
use Rattle.futures.specs.Poll.{OnPending}
use Rattle.shared_flow.specs.Emitters.{Waits, not_yet}
use Rattle.shared_flow.proofs.Waiting.{still_waits}
use Rattle.shared_flow.proofs.Emitted.{has_waited_on}
use Rattle.shared_flow.specs.Emitted.{accepted, after_poll, emitted, settled}
use Rattle.shared_flow.proofs.emitter.Emitter.finished.Goals as goal

pub loop-init : goal.loop-init
loop-init g c = (c.requires.in_flight, refl, (refl, refl), not_yet c.args.self.now)

pub loop-preserved : goal.loop-preserved
loop-preserved g c =
    let waits = subst (λ p. OnPending p (Waits c.loop.self c.poll_emit-polled.new.self)) c.in_default-polled.is c.poll_emit-polled.ensures.pending in
    still_waits c.args.self.now c.loop.self c.poll_emit-polled.new.self c.loop.invariant.0 c.loop.invariant.1 c.loop.invariant.2 c.loop.invariant.3 waits

pub returns-in-Ready-clause-has : goal.returns-in-Ready-clause-has
returns-in-Ready-clause-has g c =
    let has = subst (λ p. emitted c.poll_emit-polled.new.self ≡ after_poll p (emitted c.loop.self)) c.in-Ready.is c.poll_emit-polled.ensures.has in
    has ∙ ap (settled (accepted c.in-Ready.receipt.number)) (has_waited_on c.args.self.now c.loop.self c.loop.invariant.3)
