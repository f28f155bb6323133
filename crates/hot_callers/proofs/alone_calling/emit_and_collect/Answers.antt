use Rattle.std.proofs.Common.{◌≡◌, ◌++◌, ℕ, List, subst}
use Rattle.std.proofs.lemmas.Result.{err_from_is_err_and}
use Rattle.shared_core.specs.Kept.{making_refusal}
use Rattle.shared_core.specs.Preludes.{prelude_values}
use Rattle.shared_rounds.proofs.Refusals.{none_if_ok, whatever}
use Rattle.shared_flow.specs.Emitted.{GrewBy, emitted}
use Rattle.hot_callers.specs.Exchanges.{TakesEach}
use Rattle.hot_callers.proofs.Keeping.{still_whole}
use Rattle.hot_callers.proofs.Refused.{by_beginning, by_emitting, then_too}
use Rattle.hot_callers.proofs.Whole.{collected}
use Rattle.hot_callers.proofs.alone_calling.emit_and_collect.Goals as goal

pub end_alone-requires-clause-whole : goal.end_alone-requires-clause-whole
end_alone-requires-clause-whole g c =
    let new = c.in_ok-alone.alone in
    let took = c.emit_and_take-taken in
    still_whole new.flow.party new.emitter.party took.new.emitter.party new.subscription.party took.new.subscription.party c.in_ok-alone.ensures.has.whole took.ensures.same took.ensures.only.1

pub returns-clause-has : goal.returns-clause-has
returns-clause-has g c =
    let new = c.in_ok-alone.alone in
    let took = c.emit_and_take-taken in
    let list = took.new.received.items in
    let words = c.args.values.now in
    let grew = c.in_ok-taken.ensures.emits in
    let takes = subst (λ (l : List ℕ). TakesEach l new.subscription list took.new.subscription) c.new-received.ensures.items took.ensures.has in
    collected c.args.config (prelude_values c.args.prelude) words list grew.0 new.flow.party new.emitter took.new.emitter new.subscription took.new.subscription
    c.in_ok-alone.ensures.has grew.1 took.ensures.only.0 takes c.end_alone.ensures.has

pub returns-clause-refused : goal.returns-clause-refused
returns-clause-refused g c = none_if_ok (making_refusal c.args.config) c.in_ok-alone.alone _ c.in_ok-alone.ensures.refused

pub returns-in_err-taken-clause-refused : goal.returns-in_err-taken-clause-refused
returns-in_err-taken-clause-refused g c = none_if_ok (making_refusal c.args.config) c.in_ok-alone.alone _ c.in_ok-alone.ensures.refused

pub returns-in_err-taken-clause-otherwise : goal.returns-in_err-taken-clause-otherwise
returns-in_err-taken-clause-otherwise g c =
    let p = err_from_is_err_and c.from_residual-in_err-taken.result c.from_residual-in_err-taken.ensures.1 in
    rw (p.1, p.2) (whatever (making_refusal c.args.config) _ (by_emitting _ c.in_err-taken.ensures.refused))

pub returns-in_err-alone-clause-otherwise : goal.returns-in_err-alone-clause-otherwise
returns-in_err-alone-clause-otherwise g c =
    let p = err_from_is_err_and c.from_residual.result c.from_residual.ensures.1 in
    rw (p.1, p.2) (then_too (making_refusal c.args.config) _ _ (by_beginning _) c.in_err-alone.ensures.otherwise)
