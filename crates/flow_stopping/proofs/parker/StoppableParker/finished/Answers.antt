use Rattle.std.proofs.Common.{◌≡◌, refl, ap, subst, ◌∙◌}
use Rattle.futures.specs.Poll.{IfReady, OnPending}
use Rattle.shared_flow.specs.Emitted.{accepted, after_poll, emitted, settled}
use Rattle.shared_flow.specs.Emitters.{WasFinished, Waits, not_yet}
use Rattle.shared_flow.proofs.Emitted.{has_waited_on}
use Rattle.shared_flow.proofs.Waiting.{still_waits}
use Rattle.flow_stopping.proofs.parker.StoppableParker.finished.Goals as goal

pub loop-init : goal.loop-init
loop-init g c = (c.requires.in_flight, refl, (refl, refl), not_yet c.args.emitter.now)

pub loop-preserved : goal.loop-preserved
loop-preserved g c =
    let waits = subst (λ p. OnPending p (Waits c.loop.emitter c.poll_emit-polled.new.self)) c.in_default-polled.is c.poll_emit-polled.ensures.pending in
    still_waits c.args.emitter.now c.loop.emitter c.poll_emit-polled.new.self c.loop.invariant.0 c.loop.invariant.1 c.loop.invariant.2 c.loop.invariant.3 waits

pub returns-then-is_stopped-clause-has : goal.returns-then-is_stopped-clause-has
returns-then-is_stopped-clause-has g c = has_waited_on c.args.emitter.now c.loop.emitter c.loop.invariant.3

pub returns-then-is_stopped-clause-same : goal.returns-then-is_stopped-clause-same
returns-then-is_stopped-clause-same g c = c.loop.invariant.2

pub returns-then-is_stopped-clause-waits : goal.returns-then-is_stopped-clause-waits
returns-then-is_stopped-clause-waits g c = (c.loop.invariant.0, c.loop.invariant.3)

pub returns-in-Ready-clause-has : goal.returns-in-Ready-clause-has
returns-in-Ready-clause-has g c =
    let has = subst (λ p. emitted c.poll_emit-polled.new.self ≡ after_poll p (emitted c.loop.emitter)) c.in-Ready.is c.poll_emit-polled.ensures.has in
    has ∙ ap (settled (accepted c.in-Ready.receipt.number)) (has_waited_on c.args.emitter.now c.loop.emitter c.loop.invariant.3)

pub returns-in-Ready-clause-finished : goal.returns-in-Ready-clause-finished
returns-in-Ready-clause-finished g c =
    let finished = subst (λ p. IfReady p (λ r. WasFinished c.loop.emitter r c.poll_emit-polled.new.self)) c.in-Ready.is c.poll_emit-polled.ensures.ready in
    (c.loop.emitter, c.loop.invariant.3, finished)
