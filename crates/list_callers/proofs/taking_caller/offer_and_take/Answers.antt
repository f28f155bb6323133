use Rattle.std.proofs.Common.{Err, inr, ◌≡◌, ◌+◌, ◌<◌, [], ◌∷◌, ◌++◌, length, take, sym, ap, ◌∙◌, subst, arith}
use Rattle.std.proofs.lemmas.List.{take_more, take_all}
use Rattle.std.proofs.lemmas.Result.{err_from_is_err_and}
use Rattle.shared_core.specs.Calls.{after}
use Rattle.shared_core.specs.Flow.{empty}
use Rattle.shared_core.specs.Kept.{making_refusal, parameters_of}
use Rattle.shared_core.specs.Shown.{Shows}
use Rattle.shared_core.proofs.Continuing.{execution_shows}
use Rattle.list_callers.specs.Taking.{Took}
use Rattle.list_callers.proofs.Refusals.{first_spent, not_refused, none_if_ok, whatever}
use Rattle.list_callers.proofs.Taking.{took_first, took_all}
use Rattle.list_callers.proofs.taking_caller.offer_and_take.Goals as goal

pub loop-value-init : goal.loop-value-init
loop-value-init g c =
    let p = parameters_of c.args.config in
    let n = c.in_ok-subscription.subscription.0 in
    subst (Took p n c.subscribe.new.self []) (sym c.new-taken.ensures.items)
    (took_first p n c.in_ok-flow.flow c.subscribe.new.self c.subscribe.result c.in_ok-flow.ensures.shows c.subscribe.ensures)

pub loop-value-preserved : goal.loop-value-preserved
loop-value-preserved g c =
    let p = parameters_of c.args.config in
    let values = c.args.values.now in
    let i = c.loop-value.value-index in
    let within : i < length values = omega arith in
    let more : take (i + 1) values ≡ take i values ++ c.value-item.result ∷ [] =
    take_more values i c.value-item.result within ∙ ap (λ x. take i values ++ x ∷ []) (sym c.value-item.is) in
    subst (λ gave. Took p c.in_ok-subscription.subscription.0 c.offer.new.flow gave c.offer.new.taken.items) (sym more)
    (c.in_ok-offer.ensures.offered p (take i values) c.loop-value.invariant)

pub returns-clause-took : goal.returns-clause-took
returns-clause-took g c =
    let values = c.args.values.now in
    let done : take c.loop-value.value-index values ≡ values = take_all c.loop-value.value-index values (omega arith) in
    took_all (parameters_of c.args.config) c.in_ok-subscription.subscription.0
    (subst (λ gave. Took (parameters_of c.args.config) c.in_ok-subscription.subscription.0 c.loop-value.flow gave c.loop-value.taken.items) done c.loop-value.invariant)

pub returns-in_err-subscription-clause-otherwise : goal.returns-in_err-subscription-clause-otherwise
returns-in_err-subscription-clause-otherwise g c =
    let config = c.args.config in
    let made = not_refused (making_refusal config) c.in_ok-flow.flow c.in_ok-flow.ensures.refused in
    let spent = first_spent config c.in_ok-flow.flow c.subscribe.new.self (Err c.in_err-subscription.field-0.0) made c.in_ok-flow.ensures.shows c.in_err-subscription.ensures in
    let p = err_from_is_err_and c.from_residual-in_err-subscription.result c.from_residual-in_err-subscription.ensures.1 in
    rw (p.1, p.2) (whatever (making_refusal config) _ (inr spent))

pub returns-in_err-offer-clause-refused : goal.returns-in_err-offer-clause-refused
returns-in_err-offer-clause-refused g c = none_if_ok (making_refusal c.args.config) c.in_ok-flow.flow _ c.in_ok-flow.ensures.refused

pub returns-in_err-offer-clause-otherwise : goal.returns-in_err-offer-clause-otherwise
returns-in_err-offer-clause-otherwise g c =
    let config = c.args.config in
    let took = c.loop-value.invariant in
    let shows = subst (λ seen. Shows seen (after took.execution.calls (empty (parameters_of config)))) took.left (execution_shows (parameters_of config) took.execution took.is_execution) in
    let p = err_from_is_err_and c.from_residual-in_err-offer.result c.from_residual-in_err-offer.ensures.1 in
    rw (p.1, p.2) (whatever (making_refusal config) _ (c.in_err-offer.ensures.refused _ shows))

pub returns-clause-refused : goal.returns-clause-refused
returns-clause-refused g c = none_if_ok (making_refusal c.args.config) c.in_ok-flow.flow _ c.in_ok-flow.ensures.refused

pub returns-in_err-subscription-clause-refused : goal.returns-in_err-subscription-clause-refused
returns-in_err-subscription-clause-refused g c = none_if_ok (making_refusal c.args.config) c.in_ok-flow.flow _ c.in_ok-flow.ensures.refused
