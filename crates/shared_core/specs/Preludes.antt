-- The values of a prelude, and what contracts see of the preludes that are still being given.
use Rattle.std.specs.Prelude.{◌≡◌, ℕ, ◌⊎◌, ◌==◌, false, List, [], ◌∷◌, ◌++◌, take, drop, set, Option, Some, None, slice_get}
use Rattle.std.specs.List.{list_any, remove}
use Rattle.flow_terms.specs.Few.{values_of}
use Rattle.shared_core.specs.declared.prelude.Prelude.{Prelude}

-- the values in order
abbrev pub prelude_values : {T : Type 0} → Prelude T → List T
prelude_values prelude = values_of prelude.first ++ (values_of prelude.second ++ (values_of prelude.third ++ values_of prelude.fourth))

-- what contracts see of a prelude that is being given: its values that were given, and those that are left
pub record RestSeen (T : Type 0) : Type 0 where
  pub given : List T
  pub left : List T

-- the first of these values was given, or there is none
abbrev pub GivesFirst : {T : Type 0} → List T → Option T → List T → Type 0
GivesFirst old None new = (old ≡ []) × (new ≡ [])
GivesFirst old (Some v) new = old ≡ v ∷ new

-- the first of these values were given, as many as there is room for
abbrev pub GivesSome : {T : Type 0} → List T → ℕ → List T → List T → Type 0
GivesSome old room values new = (values ≡ take room old) × (new ≡ drop room old)

-- the entry at this index, of the subscription with this number, has these values left
abbrev pub left_at : {T : Type 0} → ℕ → ℕ → List T → List (ℕ × List T) → List (ℕ × List T)
left_at at n [] entries = remove entries at
left_at at n (v ∷ rest) entries = set entries at (n, v ∷ rest)

-- one more entry, where values are handed in
abbrev pub begun_with : {T : Type 0} → ℕ → List T → List (ℕ × List T) → List (ℕ × List T)
begun_with n [] entries = entries
begun_with n (v ∷ rest) entries = entries ++ (n, v ∷ rest) ∷ []

-- no entry has this number
abbrev pub IsWithout : {T : Type 0} → ℕ → List (ℕ × List T) → Type 0
IsWithout n entries = list_any (λ entry. entry.0 == n) entries ≡ false

-- the subscription with this number is given the first value that is left, where it has an entry
abbrev pub Greets : {T : Type 0} → ℕ → List (ℕ × List T) → Option T → List (ℕ × List T) → Type 0
Greets n old None new = IsWithout n old × (new ≡ old)
Greets {T} n old (Some v) new = (at : ℕ) × (rest : List T) × (slice_get old at ≡ Some (n, v ∷ rest)) × (new ≡ left_at at n rest old)

-- the entry of the subscription with this number is given up, where it has one
abbrev pub EndsGreeting : {T : Type 0} → ℕ → List (ℕ × List T) → List (ℕ × List T) → Type 0
EndsGreeting {T} n old new =
    (IsWithout n old × (new ≡ old)) ⊎ ((at : ℕ) × (rest : List T) × (slice_get old at ≡ Some (n, rest)) × (new ≡ remove old at))
