-- What a source gives that calls the code of its user.
use Rattle.std.specs.Prelude.{◌≡◌, ◌⊎◌, Bool, true, false, [], ◌∷◌, ⊤}
use Rattle.cold_flow.specs.declared.builders.scripted.Step.{Step}
use Rattle.cold_flow.specs.declared.builders.scripted.Step.TheVariants.{Value, Pending, Fail}
use Rattle.cold_flow.specs.declared.cause.Cause.TheVariants.{Finished, Failed}
use Rattle.cold_flow.specs.Trace.{Trace, ◌⊑◌, so_far, ended_by}

module _ {T E : Type 0} where
  -- the code has a value or a fault
  abbrev pub IsDone : Step T E → Type 0
  IsDone (Value v) = ⊤
  IsDone Pending = ⊥
  IsDone (Fail e) = ⊤

  -- One value that the code may answer, and then the end; or a fault that it may answer; or nothing yet.
  abbrev pub GivesOnce : (Step T E → Type 0) → Trace T E → Type 0
  GivesOnce answers t = (t ≡ so_far [])
      ⊎ (((v : T) × answers (Value v) × (t ⊑ ended_by (v ∷ []) Finished)) ⊎ ((e : E) × answers (Fail e) × (t ≡ ended_by [] (Failed e))))

  -- the same, until the value was given
  abbrev pub OnceOrDone : Bool → (Step T E → Type 0) → Trace T E → Type 0
  OnceOrDone false answers t = GivesOnce answers t
  OnceOrDone true answers t = t ⊑ ended_by [] Finished
