use Rattle.std.proofs.Common.{◌≡◌, ◌∙◌, ap, arith, refl}
use Rattle.cold_flow.specs.declared.operators.closing.Closing.TheVariants.{Open}
use Rattle.cold_flow.specs.Closing.{answered, given_cause}
use Rattle.cold_flow.specs.ClosingLaws.{open_gave, open_approaches, open_closes, open_prompt, open_rests}
use Rattle.cold_flow.specs.Trace.{take_trace}
use Rattle.cold_flow.specs.Laws.{Through-within}
use Rattle.cold_flow.specs.TakeLaws.{take_more, take_last, take_ends}
use Rattle.cold_flow.proofs.operators.take.TakenRunRun.poll_next.Goals as goal

pub returns-then-self-gt1-clause-narrows : goal.returns-then-self-gt1-clause-narrows
returns-then-self-gt1-clause-narrows g c =
    let was = c.in_default.ensures.going in
    let after = rw c.in-Ready-Value.field-0-is at c.in-Ready-Value.ensures.narrows in
    let is : c.answer.new.self ≡ Open = c.answer.ensures.closed ∙ ap answered was in
    rw (is, was) (take_more _ _ _ _ _ (omega arith) after)

pub returns-else-self-gt1-clause-narrows : goal.returns-else-self-gt1-clause-narrows
returns-else-self-gt1-clause-narrows g c =
    let was = c.in_default.ensures.going in
    let after = rw c.in-Ready-Value.field-0-is at c.in-Ready-Value.ensures.narrows in
    rw was (take_last _ _ _ _ c.args.self.now.positive (omega arith) (g.met.S.Run.begins _) after)

pub returns-in-Ready-End-clause-narrows : goal.returns-in-Ready-End-clause-narrows
returns-in-Ready-End-clause-narrows g c =
    let was = c.in_default.ensures.going in
    let came = rw c.in-Ready-End.field-0-is at c.in-Ready-End.ensures.narrows in
    rw was (take_ends _ _ _ c.args.self.now.positive came)

pub returns-then-self-gt1-clause-stays : goal.returns-then-self-gt1-clause-stays
returns-then-self-gt1-clause-stays g c k e = absurd (open_gave _ k c.in_default.ensures.going e)

pub returns-then-self-gt1-clause-approaches : goal.returns-then-self-gt1-clause-approaches
returns-then-self-gt1-clause-approaches g c =
    let was = c.in_default.ensures.going in
    let is : c.answer.new.self ≡ Open = c.answer.ensures.closed ∙ ap answered was in
    open_approaches _ _ _ _ was is (rw c.in-Ready-Value.field-0-is at c.in-Ready-Value.ensures.approaches)

pub returns-then-self-gt1-clause-prompt : goal.returns-then-self-gt1-clause-prompt
returns-then-self-gt1-clause-prompt g c =
    let was = c.in_default.ensures.going in
    let is : c.answer.new.self ≡ Open = c.answer.ensures.closed ∙ ap answered was in
    open_prompt _ _ _ _ was is c.in-Ready-Value.ensures.prompt

pub returns-else-self-gt1-clause-stays : goal.returns-else-self-gt1-clause-stays
returns-else-self-gt1-clause-stays g c k e = absurd (open_gave _ k c.in_default.ensures.going e)

pub returns-else-self-gt1-clause-approaches : goal.returns-else-self-gt1-clause-approaches
returns-else-self-gt1-clause-approaches g c = open_closes _ _ c.in_default.ensures.going

pub returns-in-Ready-End-clause-stays : goal.returns-in-Ready-End-clause-stays
returns-in-Ready-End-clause-stays g c k e = absurd (open_gave _ k c.in_default.ensures.going e)

pub returns-in-Pending-clause-narrows : goal.returns-in-Pending-clause-narrows
returns-in-Pending-clause-narrows g c =
    let was = c.in_default.ensures.going in
    let is : c.answer.new.self ≡ Open = c.answer.ensures.closed ∙ ap answered was in
    rw (is, was) (Through-within (take_trace c.args.self.now.left) _ _ c.in-Pending.ensures.narrows)

pub returns-in-Pending-clause-stays : goal.returns-in-Pending-clause-stays
returns-in-Pending-clause-stays g c k e = absurd (open_gave _ k c.in_default.ensures.going e)

pub returns-in-Pending-clause-approaches : goal.returns-in-Pending-clause-approaches
returns-in-Pending-clause-approaches g c =
    let was = c.in_default.ensures.going in
    let is : c.answer.new.self ≡ Open = c.answer.ensures.closed ∙ ap answered was in
    open_approaches _ _ _ _ was is c.in-Pending.ensures.approaches

pub returns-in-Pending-clause-prompt : goal.returns-in-Pending-clause-prompt
returns-in-Pending-clause-prompt g c =
    let was = c.in_default.ensures.going in
    let is : c.answer.new.self ≡ Open = c.answer.ensures.closed ∙ ap answered was in
    open_prompt _ _ _ _ was is c.in-Pending.ensures.prompt

pub returns-then-self-gt1-clause-ends : goal.returns-then-self-gt1-clause-ends
returns-then-self-gt1-clause-ends g c =
    let was = c.in_default.ensures.going in
    let is : c.answer.new.self ≡ Open = c.answer.ensures.closed ∙ ap answered was in
    ap given_cause is

pub returns-in-Pending-clause-ends : goal.returns-in-Pending-clause-ends
returns-in-Pending-clause-ends g c =
    let was = c.in_default.ensures.going in
    let is : c.answer.new.self ≡ Open = c.answer.ensures.closed ∙ ap answered was in
    ap given_cause is

pub invariant_of-self-then-self-gt1 : goal.invariant_of-self-then-self-gt1
invariant_of-self-then-self-gt1 g c =
    let was = c.in_default.ensures.going in
    let is : c.answer.new.self ≡ Open = c.answer.ensures.closed ∙ ap answered was in
    record { positive = omega arith; stopped = rw is refl }

pub invariant_of-self-in-Ready-Value : goal.invariant_of-self-in-Ready-Value
invariant_of-self-in-Ready-Value g c = record { positive = c.args.self.now.positive; stopped = c.cancel.ensures.stops }

pub invariant_of-self-in-Ready-End : goal.invariant_of-self-in-Ready-End
invariant_of-self-in-Ready-End g c = record {
  positive = c.args.self.now.positive;
  stopped = (rw c.in-Ready-End.field-0-is at c.in-Ready-End.ensures.stops) refl;
}

pub invariant_of-self-in-Pending : goal.invariant_of-self-in-Pending
invariant_of-self-in-Pending g c =
    let was = c.in_default.ensures.going in
    let is : c.answer.new.self ≡ Open = c.answer.ensures.closed ∙ ap answered was in
    record { positive = c.args.self.now.positive; stopped = rw is refl }

pub returns-then-self-gt1-clause-polled : goal.returns-then-self-gt1-clause-polled
returns-then-self-gt1-clause-polled g c = (tt, open_rests _ _ _ c.in_default.ensures.going)

pub returns-else-self-gt1-clause-polled : goal.returns-else-self-gt1-clause-polled
returns-else-self-gt1-clause-polled g c = (tt, open_rests _ _ _ c.in_default.ensures.going)

pub returns-in-Ready-End-clause-polled : goal.returns-in-Ready-End-clause-polled
returns-in-Ready-End-clause-polled g c = (tt, open_rests _ _ _ c.in_default.ensures.going)

pub returns-in-Pending-clause-polled : goal.returns-in-Pending-clause-polled
returns-in-Pending-clause-polled g c = (c.in-Pending.ensures.polled, open_rests _ _ _ c.in_default.ensures.going)
