use Rattle.std.proofs.Common.{◌≡◌, ◌∙◌, Some, None, sym, ap}
use Rattle.cold_flow.specs.declared.operators.closing.Closing.TheVariants.{Open}
use Rattle.cold_flow.specs.Closing.{answered}
use Rattle.cold_flow.specs.ClosingLaws.{open_gave, open_approaches, open_closes, open_prompt, open_rests}
use Rattle.cold_flow.specs.Finale.{with_finale}
use Rattle.cold_flow.specs.FinaleLaws.{finale_passes, finale_last, finale_ends}
use Rattle.cold_flow.specs.Laws.{Through-within}
use Rattle.cold_flow.proofs.operators.finale.ConcludedRunRun.poll_next.Goals as goal

pub returns-in-Ready-Value-clause-narrows : goal.returns-in-Ready-Value-clause-narrows
returns-in-Ready-Value-clause-narrows g c =
    let was = c.in_default.ensures.going in
    let is : c.answer.new.self ≡ Open = c.answer.ensures.closed ∙ ap answered was in
    let after = rw c.in-Ready-Value.field-0-is at c.in-Ready-Value.ensures.narrows in
    rw (is, was) (finale_passes (g.H.Finale.gives c.args.self.now.finale) _ _ _ after)

pub returns-in-Ready-Value-clause-stays : goal.returns-in-Ready-Value-clause-stays
returns-in-Ready-Value-clause-stays g c k e = absurd (open_gave _ k c.in_default.ensures.going e)

pub returns-in-Ready-Value-clause-approaches : goal.returns-in-Ready-Value-clause-approaches
returns-in-Ready-Value-clause-approaches g c =
    let was = c.in_default.ensures.going in
    let is : c.answer.new.self ≡ Open = c.answer.ensures.closed ∙ ap answered was in
    open_approaches _ _ _ _ was is (rw c.in-Ready-Value.field-0-is at c.in-Ready-Value.ensures.approaches)

pub returns-in-Ready-Value-clause-prompt : goal.returns-in-Ready-Value-clause-prompt
returns-in-Ready-Value-clause-prompt g c =
    let was = c.in_default.ensures.going in
    let is : c.answer.new.self ≡ Open = c.answer.ensures.closed ∙ ap answered was in
    open_prompt _ _ _ _ was is c.in-Ready-Value.ensures.prompt

pub returns-in-Some-last-clause-narrows : goal.returns-in-Some-last-clause-narrows
returns-in-Some-last-clause-narrows g c =
    let finale = g.H.Finale.gives c.args.self.now.finale in
    let came = rw c.in-Ready-End.field-0-is at c.in-Ready-End.ensures.narrows in
    let end = c.finale.result.1 in
    let last : finale c.in-Ready-End.cause ≡ (Some c.in-Some-last.value, end) = sym c.finale.ensures ∙ ap (λ o. (o, end)) c.in-Some-last.is in
    rw c.in_default.ensures.going
    (finale_last finale _ _ _ end last (g.met.H.Finale.finishes c.args.self.now.finale _ _ end last) came)

pub returns-in-Some-last-clause-stays : goal.returns-in-Some-last-clause-stays
returns-in-Some-last-clause-stays g c k e = absurd (open_gave _ k c.in_default.ensures.going e)

pub returns-in-Some-last-clause-approaches : goal.returns-in-Some-last-clause-approaches
returns-in-Some-last-clause-approaches g c = open_closes _ _ c.in_default.ensures.going

pub returns-in_default-last-clause-narrows : goal.returns-in_default-last-clause-narrows
returns-in_default-last-clause-narrows g c =
    let finale = g.H.Finale.gives c.args.self.now.finale in
    let came = rw c.in-Ready-End.field-0-is at c.in-Ready-End.ensures.narrows in
    let end = c.finale.result.1 in
    let ends : finale c.in-Ready-End.cause ≡ (None, end) = sym c.finale.ensures ∙ ap (λ o. (o, end)) c.in_default-last.is in
    rw c.in_default.ensures.going (finale_ends finale _ _ end ends came)

pub returns-in_default-last-clause-stays : goal.returns-in_default-last-clause-stays
returns-in_default-last-clause-stays g c k e = absurd (open_gave _ k c.in_default.ensures.going e)

pub returns-in-Pending-clause-narrows : goal.returns-in-Pending-clause-narrows
returns-in-Pending-clause-narrows g c =
    let was = c.in_default.ensures.going in
    let is : c.answer.new.self ≡ Open = c.answer.ensures.closed ∙ ap answered was in
    rw (is, was) (Through-within (with_finale (g.H.Finale.gives c.args.self.now.finale)) _ _ c.in-Pending.ensures.narrows)

pub returns-in-Pending-clause-stays : goal.returns-in-Pending-clause-stays
returns-in-Pending-clause-stays g c k e = absurd (open_gave _ k c.in_default.ensures.going e)

pub returns-in-Pending-clause-approaches : goal.returns-in-Pending-clause-approaches
returns-in-Pending-clause-approaches g c =
    let was = c.in_default.ensures.going in
    let is : c.answer.new.self ≡ Open = c.answer.ensures.closed ∙ ap answered was in
    open_approaches _ _ _ _ was is c.in-Pending.ensures.approaches

pub returns-in-Pending-clause-prompt : goal.returns-in-Pending-clause-prompt
returns-in-Pending-clause-prompt g c =
    let was = c.in_default.ensures.going in
    let is : c.answer.new.self ≡ Open = c.answer.ensures.closed ∙ ap answered was in
    open_prompt _ _ _ _ was is c.in-Pending.ensures.prompt

pub returns-in-Ready-Value-clause-polled : goal.returns-in-Ready-Value-clause-polled
returns-in-Ready-Value-clause-polled g c = (tt, open_rests _ _ _ c.in_default.ensures.going)

pub returns-in-Some-last-clause-polled : goal.returns-in-Some-last-clause-polled
returns-in-Some-last-clause-polled g c = (tt, open_rests _ _ _ c.in_default.ensures.going)

pub returns-in_default-last-clause-polled : goal.returns-in_default-last-clause-polled
returns-in_default-last-clause-polled g c = (tt, open_rests _ _ _ c.in_default.ensures.going)

pub returns-in-Pending-clause-polled : goal.returns-in-Pending-clause-polled
returns-in-Pending-clause-polled g c = (c.in-Pending.ensures.polled, open_rests _ _ _ c.in_default.ensures.going)
