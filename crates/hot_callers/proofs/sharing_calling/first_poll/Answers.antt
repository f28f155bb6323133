use Rattle.std.proofs.Common.{◌≡◌, refl, ap, Option, None, [], ◌∷◌, true}
use Rattle.std.proofs.lemmas.Result.{IfOk-weaker}
use Rattle.cold_flow.specs.declared.cause.Cause.{Cause}
use Rattle.sharing_upstream.specs.declared.polling.Polled.{Polled}
use Rattle.flow_terms.specs.declared.started.Started.{Started}
use Rattle.flow_terms.specs.declared.started.Started.TheVariants.{Eagerly}
use Rattle.sharing_upstream.specs.Strategies.{Look}
use Rattle.sharing_upstream.specs.Polls.{answer}
use Rattle.sharing_upstream.specs.Upstreams.{cause_kept}
use Rattle.hot_callers.proofs.sharing_calling.first_poll.Goals as goal

on_first : {E : Type 0} (polled : Polled) (cause : Option (Cause E)) (started : Started) (look : Look) → cause ≡ None → started ≡ Eagerly
    → polled ≡ answer cause started (look ∷ []) → polled.on ≡ true
on_first polled cause started look going eager is = rw (is, going, eager) refl

pub returns-clause-on : goal.returns-clause-on
returns-clause-on g c =
    let made = c.in_ok-sharing.ensures in
    IfOk-weaker c.poll-polled.result _ _
    (λ polled gave. on_first polled _ _ _ (ap cause_kept made.upstream) made.started.0 (gave [] made.started.1)) c.poll-polled.ensures.answers
