-- What loading may give.
use Rattle.std.proofs.Common.{◌≡◌, ◌⊎◌, ℕ, zero, suc, Bool, true, false, IsTrue, List, [], ◌∷◌, ◌++◌, Option, Some, None, Result, Ok, Err, refl, sym, ◌∙◌, ap, subst, inl, inr}
use Rattle.futures.specs.declared.task.Poll.{Poll}
use Rattle.futures.specs.declared.task.Poll.TheVariants.{Ready, Pending}
use Rattle.cold_flow.specs.declared.builders.scripted.Step.{Step}
use Rattle.cold_flow.specs.declared.cause.Cause.{Cause}
use Rattle.cold_flow.specs.declared.cause.Cause.TheVariants.{Finished, Failed}
use Rattle.cold_flow.specs.declared.operators.catch_with.Caught.TheVariants.{Last}
use Rattle.cold_flow.specs.Trace.{Trace, ◌⊑◌, so_far, ended_by}
use Rattle.cold_flow.specs.Poll.{Traces, Within, Through}
use Rattle.cold_flow.specs.Laws.{begins-any, begins-trans, begins-cause, ended-begins}
use Rattle.cold_flow.specs.Finale.{with_finale, catching, completing}
use Rattle.cold_flow.specs.FinaleLaws.{finale-monotone}
use Rattle.cold_flow.specs.First.{FirstOf}
use Rattle.more_operators.specs.Retry.{MayRetry, OrUnstarted, behind}
use Rattle.calling_sources.specs.Calling.{GivesOnce}
use Rattle.source_callers.specs.Loads.{IsAnswerOr, LoadedOr}

module _ (answers : Step ℕ ℕ → Type 0) where
  -- a failure came with no value
  failed-empty : (values : List ℕ) (fault : ℕ) → GivesOnce answers (ended_by values (Failed fault)) → values ≡ []
  failed-empty values fault (inl h) = absurd (let wrong = ap (λ (t : Trace ℕ ℕ). t.1) h in cc)
  failed-empty values fault (inr (inl h)) = absurd (begins-cause (h.0 ∷ []) Finished (Failed fault) values h.2 (λ e. absurd (cc)))
  failed-empty values fault (inr (inr h)) = ap (λ (t : Trace ℕ ℕ). t.0) h.2

  after-start : (starts : Bool) (gives : Traces ℕ ℕ) (t : Trace ℕ ℕ) → IsTrue starts → OrUnstarted starts gives t → gives t
  after-start true gives t can h = h
  after-start false gives t can h = absurd (cc)

  -- what is tried again gives what one call gives
  retried-once : (starts : Bool) → IsTrue starts → (again : Traces ℕ ℕ) → Within (GivesOnce answers) again
      → (n : ℕ) (standing : Traces ℕ ℕ) → Within (GivesOnce answers) standing
      → Within (GivesOnce answers) (MayRetry (λ _ _. true) starts again n standing)
  retried-once starts can again once zero standing first t h = first t h
  retried-once starts can again once (suc n) standing first t (inl h) = first t h.0
  retried-once starts can again once (suc n) standing first t (inr h) =
      let none : h.values ≡ [] = failed-empty h.values h.fault (first (ended_by h.values (Failed h.fault)) h.failed) in
      let came = after-start starts (MayRetry (λ _ _. true) starts again n again) h.rest can h.came in
      let same : t ≡ h.rest = h.is ∙ ap (λ (xs : List ℕ). behind xs h.rest) none in
      subst (GivesOnce answers) (sym same) (retried-once starts can again once n again once h.rest came)

  module _ (instead : ℕ) where
    -- what begins a value that is meant, and then the end
    pub Meant : Trace ℕ ℕ → Type 0
    Meant t = (w : ℕ) × IsAnswerOr answers instead w × (t ⊑ ended_by (w ∷ []) Finished)

    caught : (t : Trace ℕ ℕ) → GivesOnce answers t → Meant (with_finale (catching (λ (_ : ℕ). Last instead)) t)
    unfolding Meant
    caught t (inl h) =
        (instead, inr refl, subst (λ (u : Trace ℕ ℕ). with_finale (catching (λ (_ : ℕ). Last instead)) u ⊑ ended_by (instead ∷ []) Finished) (sym h) (begins-any _))
    caught t (inr (inl h)) = (h.0, inl h.1, finale-monotone (catching (λ (_ : ℕ). Last instead)) t (ended_by (h.0 ∷ []) Finished) h.2)
    caught t (inr (inr h)) =
        (instead, inr refl, inl (ap (with_finale (catching (λ (_ : ℕ). Last instead))) h.2))

    through-caught : (source : Traces ℕ ℕ) → Within (GivesOnce answers) source
        → (t : Trace ℕ ℕ) → Through (with_finale (catching (λ (_ : ℕ). Last instead))) source t → Meant t
    unfolding Meant
    through-caught source once t h =
        let meant = caught h.given (once h.given h.came) in (meant.0, meant.1, begins-trans t _ _ h.begins meant.2)

    through-completed : (source : Traces ℕ ℕ) → ((t : Trace ℕ ℕ) → source t → Meant t)
        → (t : Trace ℕ ℕ) → Through (with_finale (completing (λ (_ : Cause ℕ). None))) source t → Meant t
    unfolding Meant
    through-completed source meant t h =
        let was = meant h.given h.came in (
          was.0,
          was.1,
          begins-trans t _ _ h.begins (finale-monotone (completing (λ (_ : Cause ℕ). None)) h.given (ended_by (was.0 ∷ []) Finished) was.2),
        )

    first-meant : (v : ℕ) → Meant (so_far (v ∷ [])) → IsAnswerOr answers instead v
    unfolding Meant
    first-meant v (w, good, inl h) = absurd (let wrong = ap (λ (t : Trace ℕ ℕ). t.1) h in cc)
    first-meant v (w, good, inr h) = let same : w ≡ v = let e = h.1.1 in cc in subst (IsAnswerOr answers instead) same good

    none-meant : (k : Cause ℕ) → Meant (ended_by [] k) → ⊥
    unfolding Meant
    none-meant k (w, good, h) =
        let same = ap (λ (t : Trace ℕ ℕ). t.0) (ended-begins [] k (ended_by (w ∷ []) Finished) h) in cc

    -- so the answer to the first value of such a run
    pub loaded : (asked next : Option (Result ℕ (Cause ℕ))) (may after : Traces ℕ ℕ) (result : Poll (Result ℕ (Cause ℕ))) → asked ≡ None
        → ((t : Trace ℕ ℕ) → may t → Meant t) → FirstOf asked may result next after → LoadedOr answers instead result
    loaded None next may after (Ready (Ok v)) fresh meant h = first-meant v (meant (so_far (v ∷ [])) h.1)
    loaded None next may after (Ready (Err k)) fresh meant h = none-meant k (meant (ended_by [] k) h.1)
    loaded None next may after Pending fresh meant h = tt
    loaded (Some r) next may after result fresh meant h = absurd (cc)

    -- all operators, one round another
    pub all_meant : (starts : Bool) → IsTrue starts → (source retrying catching_it completed : Traces ℕ ℕ) → Within (GivesOnce answers) source
        → Within (MayRetry (λ _ _. true) starts source 3 source) retrying
        → Within (Through (with_finale (catching (λ (_ : ℕ). Last instead))) retrying) catching_it
        → Within (Through (with_finale (completing (λ (_ : Cause ℕ). None))) catching_it) completed
        → (t : Trace ℕ ℕ) → completed t → Meant t
    all_meant starts can source retrying catching_it completed once retries catches completes t h =
        through-completed catching_it
        (λ u g. through-caught retrying (λ w i. retried-once starts can source once 3 source once w (retries w i)) u (catches u g))
        t (completes t h)
