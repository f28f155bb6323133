-- Laws of gathering.
use Rattle.std.specs.Prelude.{◌≡◌, List, [], ◌∷◌, ◌++◌, Result, Ok, Err, IfOk}
use Rattle.flow_terms.specs.declared.refusal.Refusal.{Refusal}
use Rattle.cold_flow.specs.declared.ends.collect.Collected.{Collected}
use Rattle.cold_flow.specs.Laws.{ended-begins}
use Rattle.std.proofs.Common.{sym, ◌∙◌, ap, subst, append_assoc}
use Rattle.std.proofs.lemmas.List.{append-nil}
use Rattle.cold_flow.specs.declared.cause.Cause.{Cause}
use Rattle.cold_flow.specs.Trace.{Trace, so_far, ended_by, led_by}
use Rattle.cold_flow.specs.Poll.{Traces, Within, After, Beginnings}
use Rattle.cold_flow.specs.Gather.{Gathered}

module _ {A E : Type 0} where
  pub gathers_value : (values more : List A) (old new : Traces A E) (v : A) → After old v new → more ≡ values ++ v ∷ []
      → Within (Gathered values old) (Gathered more new)
  gathers_value values more old new v after is t h = record {
    given = led_by v h.given;
    came = after h.given h.came;
    is = h.is ∙ ap (λ (xs : List A). (xs, h.given.1)) (ap (λ (ys : List A). ys ++ h.given.0) is ∙ append_assoc values (v ∷ []) h.given.0);
  }

  pub gathers_end : (values : List A) (rest : Traces A E) (k : Cause E) → rest (ended_by [] k) → Gathered values rest (ended_by values k)
  gathers_end values rest k h =
      record { given = ended_by [] k; came = h; is = ap (λ (xs : List A). ended_by xs k) (sym (append-nil values)) }

  pub gathers_none : (rest : Traces A E) → Within rest (Gathered [] rest)
  gathers_none rest t h = subst rest (sym h.is) h.came

  pub gathers_so_far : (values : List A) (rest : Traces A E) → rest (so_far []) → Gathered values rest (so_far values)
  gathers_so_far values rest h =
      record { given = so_far []; came = h; is = ap (λ (xs : List A). so_far {A = A} {E = E} xs) (sym (append-nil values)) }

  pub gathers_within : (values : List A) (old new : Traces A E) → Within old new → Within (Gathered values old) (Gathered values new)
  gathers_within values old new within t h = record { given = h.given; came = within h.given h.came; is = h.is }

-- where a run may give only the beginnings of one trace, what was collected is that trace
pub collected_whole : {A E : Type 0} (r : Result (Collected A E) Refusal) (may : Traces A E) (whole : Trace A E)
    → IfOk r (λ d. may (ended_by d.values.items d.cause)) → Within (Beginnings whole) may
    → IfOk r (λ d. ended_by d.values.items d.cause ≡ whole)
collected_whole (Ok d) may whole h fixed = ended-begins d.values.items d.cause whole (fixed _ h)
collected_whole (Err e) may whole h fixed = h
