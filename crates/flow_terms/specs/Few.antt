-- Up to four values.
use Rattle.std.specs.Prelude.{ℕ, Bool, true, false, List, [], ◌∷◌, Option, Some, None}
use Rattle.flow_terms.specs.declared.few.Few.{Few}
use Rattle.flow_terms.specs.declared.few.Few.TheVariants.{Zero, One, Two, Three, Four}

-- the values in order
abbrev pub values_of : {A : Type 0} → Few A → List A
values_of Zero = []
values_of (One a) = a ∷ []
values_of (Two a b) = a ∷ b ∷ []
values_of (Three a b c) = a ∷ b ∷ c ∷ []
values_of (Four a b c d) = a ∷ b ∷ c ∷ d ∷ []

-- how many there are
abbrev pub few_len : {A : Type 0} → Few A → ℕ
few_len Zero = 0
few_len (One a) = 1
few_len (Two a b) = 2
few_len (Three a b c) = 3
few_len (Four a b c d) = 4

abbrev pub is_zero : {A : Type 0} → Few A → Bool
is_zero Zero = true
is_zero (One a) = false
is_zero (Two a b) = false
is_zero (Three a b c) = false
is_zero (Four a b c d) = false

-- the first value and those after it
abbrev pub split : {A : Type 0} → Few A → Option (A × Few A)
split Zero = None
split (One a) = Some (a, Zero)
split (Two a b) = Some (a, One b)
split (Three a b c) = Some (a, Two b c)
split (Four a b c d) = Some (a, Three b c d)
