-- What `running_reduce` makes of values.
use Rattle.std.specs.Prelude.{List, [], ◌∷◌, Option, Some, None}

-- the first value itself, and then what g makes of the last answer and of a value
abbrev pub next_state : {A : Type 0} → (A × A → A) → Option A → A → A
next_state g None x = x
next_state g (Some state) x = g (state, x)

abbrev pub reduced_after : {A : Type 0} → (A × A → A) → Option A → List A → List A
reduced_after g state [] = []
reduced_after g state (x ∷ xs) = next_state g state x ∷ reduced_after g (Some (next_state g state x)) xs
