-- What `zip_with_next` makes of values.
use Rattle.std.specs.Prelude.{◌≡◌, List, [], ◌∷◌, Option, Some, None, refl}
use Rattle.std.specs.List.{cons_option}

-- each value with the one after it; where there was one before the first, that one stands before it
abbrev pub pairs_after : {A : Type 0} → Option A → List A → List (A × A)
pairs_after before [] = []
pairs_after None (x ∷ xs) = pairs_after (Some x) xs
pairs_after (Some before) (x ∷ xs) = (before, x) ∷ pairs_after (Some x) xs

-- what one value gives
abbrev pub pair_of : {A : Type 0} → Option A → A → Option (A × A)
pair_of None x = None
pair_of (Some before) x = Some (before, x)

-- value by value
pub pairs_step : {A : Type 0} (before : Option A) (x : A) (xs : List A)
    → pairs_after before (x ∷ xs) ≡ cons_option (pair_of before x) (pairs_after (Some x) xs)
pairs_step None x xs = refl
pairs_step (Some before) x xs = refl
