-- Laws of flows of given steps.
use Rattle.std.specs.Prelude.{◌≡◌, ℕ, ◌<◌, IsTrue, List, [], ◌∷◌, Some, refl}
use Rattle.std.proofs.Common.{ap, subst, sym, inl}
use Rattle.cold_flow.specs.declared.cause.Cause.TheVariants.{Cancelled}
use Rattle.cold_flow.specs.declared.builders.scripted.Step.{Step}
use Rattle.cold_flow.specs.declared.builders.scripted.Step.TheVariants.{Value, Pending, Fail}
use Rattle.cold_flow.specs.Trace.{Trace, ◌⊑◌, ended_by}
use Rattle.std.specs.Iterator.{at_most}
use Rattle.cold_flow.specs.Poll.{Narrows, Approaches, Beginnings}
use Rattle.cold_flow.specs.Steps.{answer_of, StaysPrompt}
use Rattle.cold_flow.specs.Scripted.{played, never_pends}
use Rattle.cold_flow.specs.Laws.{ended-begins, led-begins}

module _ {A E : Type 0} where
  first-narrows : (step : Step A E) (rest : List (Step A E))
      → Narrows (Beginnings (played (step ∷ rest))) (answer_of (Some step)) (Beginnings (played rest))
  first-narrows (Value v) rest = λ t h. led-begins v t (played rest) h
  first-narrows Pending rest = λ t h. h
  first-narrows (Fail f) rest = inl refl

  first-prompt : (step : Step A E) (rest : List (Step A E)) → IsTrue (never_pends (step ∷ rest)) → StaysPrompt (Some step) (never_pends rest)
  first-prompt (Value v) rest h = h
  first-prompt Pending rest h = absurd (cc)
  first-prompt (Fail f) rest h = tt

  -- one step of several
  pub step_narrows : (steps : List (Step A E)) (step : Step A E) (rest : List (Step A E)) → steps ≡ step ∷ rest
      → Narrows (Beginnings (played steps)) (answer_of (Some step)) (Beginnings (played rest))
  step_narrows steps step rest is =
      subst (λ (ss : List (Step A E)). Narrows (Beginnings (played ss)) (answer_of (Some step)) (Beginnings (played rest))) (sym is)
      (first-narrows step rest)

  pub step_approaches : (step : Step A E) (before left : ℕ) → left < before → Approaches (at_most before) (answer_of (Some step)) (at_most left)
  step_approaches (Value v) before left fewer = λ h. (h, fewer)
  step_approaches Pending before left fewer = λ h. (h, fewer)
  step_approaches (Fail f) before left fewer = tt

  pub step_prompt : (steps : List (Step A E)) (step : Step A E) (rest : List (Step A E)) → steps ≡ step ∷ rest
      → IsTrue (never_pends steps) → StaysPrompt (Some step) (never_pends rest)
  step_prompt steps step rest is h = first-prompt step rest (subst (λ (ss : List (Step A E)). IsTrue (never_pends ss)) is h)

  played-cause : (steps : List (Step A E)) → (played steps).1 ≡ Some Cancelled → ⊥
  played-cause [] e = cc
  played-cause (Value v ∷ steps) e = played-cause steps e
  played-cause (Pending ∷ steps) e = played-cause steps e
  played-cause (Fail f ∷ steps) e = cc

  pub played-uncancelled : (steps : List (Step A E)) (xs : List A) → ended_by xs Cancelled ⊑ played steps → ⊥
  played-uncancelled steps xs h =
      let e : ended_by xs Cancelled ≡ played steps = ended-begins xs Cancelled (played steps) h in
      let second : Some Cancelled ≡ (played steps).1 = ap (λ (t : Trace A E). t.1) e in
      played-cause steps (cc)
