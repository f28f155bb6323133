-- What polls of a run gave, its last ones among them.
use Rattle.std.specs.Prelude.{◌≡◌, List, [], ◌++◌}
use Rattle.futures.specs.declared.task.Poll.{Poll}
use Rattle.cold_flow.specs.declared.event.Event.{Event}
use Rattle.cold_flow.specs.Passing.{given_by}

-- polls of the run gave these values so far, one after another, whatever else they answered
pub data GaveSoFar {R A E : Type 0} (polled : R → Poll (Event A E) → R → Type 0) : R → List A → R → Type 0 where
  none_yet : {r : R} → GaveSoFar polled r [] r
  polled_on : {r s t : R} {xs ys : List A} (answer : Poll (Event A E)) → GaveSoFar polled r xs s → polled s answer t
      → ys ≡ xs ++ given_by answer → GaveSoFar polled r ys t

-- these were added to a list
abbrev pub TookSoFar : {R A E : Type 0} → (R → Poll (Event A E) → R → Type 0) → R → List A → List A → R → Type 0
TookSoFar {A = A} polled old before after new = (xs : List A) × (after ≡ before ++ xs) × GaveSoFar polled old xs new
