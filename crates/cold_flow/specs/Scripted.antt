-- What a list of steps gives.
use Rattle.std.specs.Prelude.{Bool, true, false, List, [], ◌∷◌}
use Rattle.cold_flow.specs.declared.cause.Cause.TheVariants.{Finished, Failed}
use Rattle.cold_flow.specs.declared.builders.scripted.Step.{Step}
use Rattle.cold_flow.specs.declared.builders.scripted.Step.TheVariants.{Value, Pending, Fail}
use Rattle.cold_flow.specs.Trace.{Trace, ended_by, led_by}

-- its values, up to the first failure or the end of the list
abbrev pub played : {A E : Type 0} → List (Step A E) → Trace A E
played [] = ended_by [] Finished
played (Value v ∷ steps) = led_by v (played steps)
played (Pending ∷ steps) = played steps
played (Fail e ∷ steps) = ended_by [] (Failed e)

-- whether no pending step is reached
abbrev pub never_pends : {A E : Type 0} → List (Step A E) → Bool
never_pends [] = true
never_pends (Value v ∷ steps) = never_pends steps
never_pends (Pending ∷ steps) = false
never_pends (Fail e ∷ steps) = true
