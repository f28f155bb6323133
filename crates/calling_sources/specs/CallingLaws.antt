-- Laws of sources that call the code of their user.
use Rattle.std.specs.Prelude.{Bool, true, false, List, [], ◌∷◌, refl}
use Rattle.std.proofs.Common.{inl, inr, ap}
use Rattle.cold_flow.specs.declared.builders.scripted.Step.{Step}
use Rattle.cold_flow.specs.declared.builders.scripted.Step.TheVariants.{Value, Fail}
use Rattle.cold_flow.specs.declared.cause.Cause.TheVariants.{Finished, Failed, Cancelled}
use Rattle.cold_flow.specs.Trace.{Trace, ◌⊑◌, so_far, ended_by}
use Rattle.cold_flow.specs.Poll.{After}
use Rattle.cold_flow.specs.Laws.{begins-any, led-begins, begins-cause}
use Rattle.calling_sources.specs.Calling.{GivesOnce, OnceOrDone}

module _ {T E : Type 0} where
  finished-uncancelled : (ys xs : List T) → ended_by {E = E} xs Cancelled ⊑ ended_by ys Finished → ⊥
  finished-uncancelled ys xs h = begins-cause ys Finished Cancelled xs h (λ e. absurd (cc))

  pub done-begins : (done : Bool) (answers : Step T E → Type 0) → OnceOrDone done answers (so_far [])
  done-begins false answers = inl refl
  done-begins true answers = begins-any (ended_by [] Finished)

  once-uncancelled : (answers : Step T E → Type 0) (xs : List T) → GivesOnce answers (ended_by xs Cancelled) → ⊥
  once-uncancelled answers xs (inl h) = let same = ap (λ (t : Trace T E). t.1) h in absurd (cc)
  once-uncancelled answers xs (inr (inl h)) = finished-uncancelled (h.0 ∷ []) xs h.2
  once-uncancelled answers xs (inr (inr h)) = let same = ap (λ (t : Trace T E). t.1) h.2 in absurd (cc)

  pub done-uncancelled : (done : Bool) (answers : Step T E → Type 0) (xs : List T) → OnceOrDone done answers (ended_by xs Cancelled) → ⊥
  done-uncancelled false answers xs h = once-uncancelled answers xs h
  done-uncancelled true answers xs h = finished-uncancelled [] xs h

  -- after its value comes the end
  pub once-after : (answers : Step T E → Type 0) (v : T) → answers (Value v) → After (OnceOrDone false answers) v (OnceOrDone true answers)
  once-after answers v came t h = inr (inl (v, came, led-begins v t (ended_by [] Finished) h))

  pub once-fails : (answers : Step T E → Type 0) (e : E) → answers (Fail e) → GivesOnce answers (ended_by [] (Failed e))
  once-fails answers e came = inr (inr (e, came, refl))
