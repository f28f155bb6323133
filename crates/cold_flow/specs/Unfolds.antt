-- What a state and a step unfold into.
use Rattle.std.specs.Prelude.{◌≡◌, List, [], ◌∷◌, Option, Some, None}
use Rattle.cold_flow.specs.declared.cause.Cause.{Cause}
use Rattle.cold_flow.specs.declared.cause.Cause.TheVariants.{Finished, Failed}
use Rattle.cold_flow.specs.declared.builders.unfold.Unfolded.{Unfolded}
use Rattle.cold_flow.specs.declared.builders.unfold.Unfolded.TheVariants.{Next, Finish, Fail}
use Rattle.cold_flow.specs.Trace.{Trace}

module _ {T S E : Type 0} where
  -- one step after another gives these values, and leads from the one state to the other
  abbrev pub Leads : (S → Unfolded T S E) → S → List T → S → Type 0
  Leads step from [] to = from ≡ to
  Leads step from (value ∷ values) to = (next : S) × (step from ≡ Next value next) × Leads step next values to

  -- how a flow ends at this answer, where it has ended
  abbrev pub EndsAt : Unfolded T S E → Option (Cause E) → Type 0
  EndsAt answer None = Unit {0}
  EndsAt (Next value state) (Some cause) = ⊥
  EndsAt Finish (Some cause) = cause ≡ Finished
  EndsAt (Fail fault) (Some cause) = cause ≡ Failed fault

  -- the values of steps in a row, from the state on, and the end that the step after them answers
  pub record Unfolds (step : S → Unfolded T S E) (state : S) (t : Trace T E) : Type 0 where
    pub last : S
    pub leads : Leads step state t.0 last
    pub ends : EndsAt (step last) t.1
