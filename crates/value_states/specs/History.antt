-- Read this first: the history of a state, which is the list of its values.
use Rattle.std.specs.Prelude.{◌≡◌, ℕ, Option, Some, None, List, [], ◌∷◌, ◌++◌, length}
use Rattle.value_states.specs.declared.round.Round.{Round}
use Rattle.value_states.specs.declared.round.Round.TheVariants as round
use Rattle.value_states.specs.declared.versioned.Versioned.{Versioned}

module _ {T : Type 0} where
  -- what a call wrote, which left this value: the value, or nothing
  abbrev pub written_by : Round → T → List T
  written_by round.Read value = []
  written_by round.Write value = value ∷ []
  written_by (round.Give version) value = []

  -- the values that a list of calls wrote, in order
  abbrev pub written : List (ℕ × Round × Versioned T) → List T
  written [] = []
  written (t ∷ calls) = written_by t.1 t.2.value ++ written calls

  -- the first value, of a state that was made so
  abbrev pub first_of : Option (Versioned T) → List T
  first_of None = []
  first_of (Some state) = state.value ∷ []

  -- the history after these calls: the first value, and then those that they wrote
  abbrev pub history_after : Option (Versioned T) → List (ℕ × Round × Versioned T) → List T
  history_after made calls = first_of made ++ written calls

  -- the value stands last in the history, and its version is the number of values before it
  pub record IsLast (history : List T) (state : Versioned T) : Type 0 where
    pub earlier : List T
    pub last : history ≡ earlier ++ state.value ∷ []
    pub version : state.version ≡ length earlier
