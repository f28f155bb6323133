use Rattle.std.proofs.Common.{◌≡◌, ℕ, [], ◌∷◌, refl, ap, subst, ◌∙◌}
use Rattle.futures.specs.Poll.{IfReady, OnPending}
use Rattle.shared_rounds.specs.declared.round.Round.TheVariants as round
use Rattle.shared_rounds.specs.Entering.{Made}
use Rattle.shared_flow.specs.Parties.{named}
use Rattle.shared_flow.specs.Looks.{GaveIn, MissedTwice}
use Rattle.shared_flow.specs.Preludes.{IsPast, GreetedOr}
use Rattle.hot_callers.specs.SharedCalls.{HasTaken}
use Rattle.hot_callers.proofs.Looks.{taken_more, polled_one, polled_none}
use Rattle.hot_callers.proofs.shared_calling.received.Goals as goal

pub loop-init : goal.loop-init
loop-init g c = ((refl, refl), ([], (refl, refl), refl))

pub returns-in-Ready-clause-value : goal.returns-in-Ready-clause-value
returns-in-Ready-clause-value g c =
    let before = c.args.subscription.now in
    let turn = c.loop.subscription in
    let after = c.poll_next-polled.new.self in
    let value = c.in-Ready.value in
    let was : HasTaken before [] turn = c.loop.invariant.1 in
    let gives = subst (λ p. IfReady p (λ v. GreetedOr turn v after (GaveIn (λ word. word) turn.reader v after.reader))) c.in-Ready.is c.poll_next-polled.ensures.ready in
    taken_more before turn after (value ∷ []) was (polled_one turn after value gives)

pub loop-preserved : goal.loop-preserved
loop-preserved g c =
    let before = c.args.subscription.now in
    let turn = c.loop.subscription in
    let after = c.poll_next-polled.new.self in
    let was : HasTaken before [] turn = c.loop.invariant.1 in
    let missed = subst (λ p. OnPending p (IsPast turn after × MissedTwice turn.reader after.reader)) c.in_default.is c.poll_next-polled.ensures.pending in
    let party = subst (λ p. OnPending p (Made (round.Pending turn.number) turn.party after.party)) c.in_default.is c.poll_next-polled.ensures.round in
    ((ap named party.after ∙ c.loop.invariant.0.0, c.poll_next-polled.ensures.same ∙ c.loop.invariant.0.1), taken_more before turn after [] was (polled_none turn after missed))
