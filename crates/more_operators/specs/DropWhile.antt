-- Values from the first on that fails a test.
use Rattle.std.specs.Prelude.{◌≡◌, ◌&&◌, Bool, true, false, List, [], ◌∷◌, Option, Some, None, if◌then◌else◌, refl}
use Rattle.std.specs.List.{cons_option}

-- the values from the first on that fails the test; all of them, where one has failed before
abbrev pub dropped_while : {A : Type 0} → (A → Bool) → Bool → List A → List A
dropped_while passes false xs = xs
dropped_while passes true [] = []
dropped_while passes true (x ∷ xs) = if passes x then dropped_while passes true xs else x ∷ xs

-- x, unless it is left out
abbrev pub left_out : {A : Type 0} → (A → Bool) → Bool → A → Option A
left_out passes is_dropping x = if is_dropping && passes x then None else Some x

module _ {A : Type 0} (passes : A → Bool) where
  pub drop_while-none : (is_dropping : Bool) → dropped_while passes is_dropping [] ≡ []
  drop_while-none false = refl
  drop_while-none true = refl

  step-by : (b : Bool) (x : A) (xs : List A) → (if b then dropped_while passes true xs else x ∷ xs)
      ≡ cons_option (if b then None else Some x) (dropped_while passes b xs)
  step-by true x xs = refl
  step-by false x xs = refl

  -- value by value
  pub drop_while-step : (is_dropping : Bool) (x : A) (xs : List A) → dropped_while passes is_dropping (x ∷ xs)
      ≡ cons_option (left_out passes is_dropping x) (dropped_while passes (is_dropping && passes x) xs)
  drop_while-step false x xs = refl
  drop_while-step true x xs = step-by (passes x) x xs
