-- What halving unfolds into, and what a first poll gathers of it.
use Rattle.std.proofs.Common.{◌≡◌, ◌∙◌, ℕ, zero, suc, ◌<◌, ◌/◌, List, [], ◌∷◌, Some, Result, Ok, Err, IfOk, refl, subst, arith}
use Rattle.futures.specs.Poll.{IfReady}
use Rattle.futures.specs.declared.task.Poll.{Poll}
use Rattle.futures.specs.declared.task.Poll.TheVariants.{Ready, Pending}
use Rattle.flow_terms.specs.declared.refusal.Refusal.{Refusal}
use Rattle.cold_flow.specs.declared.cause.Cause.{Cause}
use Rattle.cold_flow.specs.declared.cause.Cause.TheVariants.{Finished}
use Rattle.cold_flow.specs.declared.ends.collect.Collected.{Collected}
use Rattle.cold_flow.specs.declared.ends.collect.Gathering.{Gathering}
use Rattle.cold_flow.specs.declared.ends.collect.Gathering.TheVariants.{Going}
use Rattle.cold_flow.specs.declared.builders.unfold.Unfolded.TheVariants.{Next}
use Rattle.cold_flow.specs.Trace.{ended_by}
use Rattle.cold_flow.specs.Poll.{Traces, Within}
use Rattle.cold_flow.specs.Unfolds.{Leads, EndsAt, Unfolds}
use Rattle.cold_flow.specs.Gather.{GathersTo}
use Rattle.cold_flow.specs.GatherLaws.{gathers_none}
use Rattle.cold_callers.specs.Halves.{half_on, AreHalves}

-- it ends at 0 alone
ends-at : (number : ℕ) (cause : Cause ℕ) → EndsAt (half_on number) (Some cause) → (number ≡ 0) × (cause ≡ Finished)
ends-at zero cause h = (refl, h)
ends-at (suc n) cause h = absurd h

-- it goes on at any other number
goes-on : (number value next : ℕ) → half_on number ≡ Next value next → (0 < number) × (value ≡ number) × (next ≡ number / 2)
goes-on zero value next is = absurd (cc)
goes-on (suc n) value next is = (omega arith, cc, cc)

leads-down : (number : ℕ) (values : List ℕ) (last : ℕ) → Leads half_on number values last → last ≡ 0 → AreHalves number values
leads-down number [] last leads over = leads ∙ over
leads-down number (value ∷ values) last leads over =
    let step = goes-on number value leads.0 leads.1 in
    (step.0, step.1, subst (λ (n : ℕ). AreHalves n values) step.2 (leads-down leads.0 values last leads.2 over))

-- a whole trace of it has all halves
pub whole-halves : (number : ℕ) (values : List ℕ) (cause : Cause ℕ) → Unfolds half_on number (ended_by values cause)
    → AreHalves number values × (cause ≡ Finished)
whole-halves number values cause h =
    let over = ends-at h.last cause h.ends in (leads-down number values h.last h.leads over.0, over.1)

-- so does what the first poll of a collection hands out
pub handed-out : (number : ℕ) (may : Traces ℕ ℕ) → Within (Unfolds half_on number) may
    → (result : Poll (Result (Collected ℕ ℕ) Refusal)) (state : Gathering ℕ) (values : List ℕ) (rest : Traces ℕ ℕ)
    → GathersTo Going [] may result state values rest
    → IfReady result (λ gathered. IfOk gathered (λ list. AreHalves number list.values.items × (list.cause ≡ Finished)))
handed-out number may within Pending state values rest h = tt
handed-out number may within (Ready (Err refusal)) state values rest h = tt
handed-out number may within (Ready (Ok list)) state values rest h =
    whole-halves number list.values.items list.cause (within _ (gathers_none may _ h.2))
