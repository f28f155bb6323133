use Rattle.std.proofs.Common.{rules, map, sym, subst}
use Rattle.std.proofs.lemmas.Result.{err_from_is_err_and}
use Rattle.shared_core.specs.Headline.{Headline}
use Rattle.shared_core.specs.Kept.{making_refusal, parameters_of}
use Rattle.shared_core.specs.Runs.{Runs, call_of}
use Rattle.shared_core.proofs.Replaying.{made_is}
use Rattle.list_callers.proofs.Refusals.{none_if_ok, whatever}
use Rattle.list_callers.proofs.headline_caller.run_new_flow.Goals as goal

pub returns-in_err-flow-clause-refused : goal.returns-in_err-flow-clause-refused
returns-in_err-flow-clause-refused g c =
    let p = err_from_is_err_and c.from_residual.result c.from_residual.ensures.1 in rw (p.1, p.2) c.in_err-flow.ensures.refused

pub returns-in_err-run-clause-refused : goal.returns-in_err-run-clause-refused
returns-in_err-run-clause-refused g c = none_if_ok (making_refusal c.args.config) c.in_ok-flow.flow _ c.in_ok-flow.ensures.refused

pub returns-in_err-run-clause-made : goal.returns-in_err-run-clause-made
returns-in_err-run-clause-made g c = whatever (making_refusal c.args.config) _ (search rules)

pub returns-clause-refused : goal.returns-clause-refused
returns-clause-refused g c = none_if_ok (making_refusal c.args.config) c.in_ok-flow.flow _ c.in_ok-flow.ensures.refused

pub returns-clause-execution : goal.returns-clause-execution
returns-clause-execution g c =
    let calls = c.args.calls.now in
    let runs = subst (λ before. Runs calls c.in_ok-flow.flow before c.run.new.out.items c.run.new.self) c.requires c.in_ok-run.ensures.ok in
    made_is (parameters_of c.args.config) calls c.run.new.out.items c.in_ok-flow.flow c.run.new.self c.in_ok-flow.ensures.shows runs

pub returns-clause-headline : goal.returns-clause-headline
returns-clause-headline g c =
    let p = parameters_of c.args.config in
    let calls = c.args.calls.now in
    let runs = subst (λ before. Runs calls c.in_ok-flow.flow before c.run.new.out.items c.run.new.self) c.requires c.in_ok-run.ensures.ok in
    let law = c.each_subscription_receives_prelude_cache_then_later.ensures in
    subst Headline (sym (made_is p calls c.run.new.out.items c.in_ok-flow.flow c.run.new.self c.in_ok-flow.ensures.shows runs))
    record {
      each_receives_prelude_cache_then_later = law.each_receives_prelude_cache_then_later p (map call_of calls);
      each_emitter_in_its_own_order = law.each_emitter_in_its_own_order p (map call_of calls);
      numbers_count_what_was_accepted = law.numbers_count_what_was_accepted p (map call_of calls);
      each_live_was_opened = law.each_live_was_opened p (map call_of calls);
      live_until_cancelled = law.live_until_cancelled p (map call_of calls);
      nothing_after_cancellation = law.nothing_after_cancellation p (map call_of calls);
      nothing_without_opening = law.nothing_without_opening p (map call_of calls);
      at_most_its_places_pending = law.at_most_its_places_pending p (map call_of calls);
      none_waits_beside_room = law.none_waits_beside_room p (map call_of calls);
      caches_the_latest = law.caches_the_latest p (map call_of calls);
    }
