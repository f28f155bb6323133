use Rattle.std.proofs.Common.{None, inr, refl, ap, ◌∙◌}
use Rattle.std.proofs.lemmas.Result.{err_from_is_err_and}
use Rattle.shared_core.specs.Kept.{making_refusal}
use Rattle.script_engines.specs.Parties.{Parties}
use Rattle.script_engines.specs.Subscribing.{Subscribing, subscribing_of}
use Rattle.script_engines.proofs.Parties.{untouched}
use Rattle.script_calls.proofs.Refusals.{no_reason, refused_for}
use Rattle.script_engines.proofs.for_threads.ForThreads.new.Goals as goal

pub returns-in_err-flow : goal.returns-in_err-flow
returns-in_err-flow g c =
    let p = err_from_is_err_and c.from_residual.result c.from_residual.ensures.1 in
    rw (p.1, p.2) (refused_for (making_refusal c.args.config) c.in_err-flow.field-0.0 _ refl c.in_err-flow.ensures.refused c.in_err-flow.ensures.made)

pub returns-in_err-emitter : goal.returns-in_err-emitter
returns-in_err-emitter g c =
    let p = err_from_is_err_and c.from_residual-in_err-emitter.result c.from_residual-in_err-emitter.ensures.1 in
    rw (p.1, p.2) (inr (no_reason (making_refusal c.args.config) c.in_ok-flow.flow c.in_ok-flow.ensures.refused, c.in_err-emitter.ensures.memory))

pub returns : goal.returns
returns g c =
    let it : Parties = record { subscriptions = subscribing_of c.new-2.result; emitter = c.in_ok-emitter.emitter; spare = None; emissions = c.new-3.result.items } in (
      no_reason (making_refusal c.args.config) c.in_ok-flow.flow c.in_ok-flow.ensures.refused,
      untouched c.args.config c.in_ok-flow.flow it c.in_ok-flow.ensures.config
          (c.in_ok-flow.ensures.rounds.0, c.in_ok-flow.ensures.rounds.1, c.in_ok-flow.ensures.rounds.2)
          (ap (λ (s : Subscribing). s.flow) c.new-2.ensures ∙ c.in_ok-emitter.ensures.half) (ap (λ (s : Subscribing). s.places) c.new-2.ensures)
          (c.in_ok-emitter.ensures.flow, c.in_ok-emitter.ensures.id, c.in_ok-emitter.ensures.idle) refl c.new-3.ensures.items,
    )
