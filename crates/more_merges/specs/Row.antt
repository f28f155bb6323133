-- The latest values of several sources.
use Rattle.std.specs.Prelude.{ℕ, List, [], ◌∷◌, Option, Some, None, option_map, slice_set}
use Rattle.std.specs.List.{cons_option}

-- what a row holds: the latest value of each source, where it has given one, and the function of them
pub record Latest (A G : Type 0) : Type 0 where
  pub latest : List (Option A)
  pub function : G

-- all of them, where each is there
abbrev pub whole : {A : Type 0} → List (Option A) → Option (List A)
whole [] = Some []
whole (None ∷ rest) = None
whole (Some x ∷ rest) = option_map (λ xs. x ∷ xs) (whole rest)

-- the latest value of each, once the source at an index gave one
abbrev pub latest_after : {A : Type 0} → List (Option A) → ℕ × A → List (Option A)
latest_after latest v = slice_set latest v.0 (Some v.1)

-- g of the latest value of each, where each has given one
abbrev pub row_of : {A C : Type 0} → (List A → C) → List (Option A) → Option C
row_of g latest = option_map g (whole latest)

-- at each value, from the first on at which each has given one, g of the latest value of each
abbrev pub combined : {A C : Type 0} → (List A → C) → List (Option A) → List (ℕ × A) → List C
combined g latest [] = []
combined g latest (v ∷ vs) = cons_option (row_of g (latest_after latest v)) (combined g (latest_after latest v) vs)
