-- How a chunk holds its values: four by four, and then one to four.
use Rattle.std.specs.Prelude.{◌≡◌, ℕ, zero, suc, ◌+◌, ◌≤◌, ◌<◌, List, [], ◌∷◌, ◌++◌, length, take, Some, None, slice_get, refl}
use Rattle.std.proofs.Common.{ap, ◌∙◌, arith, append_assoc, take_all}
use Rattle.std.proofs.lemmas.List.{take_more}
use Rattle.std.proofs.lemmas.Option.{slice_get_within, get_or_from_slice_get}
use Rattle.std.specs.List.{flat_map}
use Rattle.flow_terms.specs.declared.few.Few.{Few}
use Rattle.flow_terms.specs.declared.few.Few.TheVariants.{Zero, One, Two, Three, Four}
use Rattle.flow_terms.specs.Few.{values_of, few_len}
use Rattle.more_operators.specs.declared.operators.chunk.Chunk.TheInside.{Inside}

abbrev pub values_of_four : {A : Type 0} → A × A × A × A → List A
values_of_four (a, b, c, d) = a ∷ b ∷ c ∷ d ∷ []

abbrev pub values_by_four : {A : Type 0} → Few (A × A × A × A) → List A
values_by_four fours = flat_map values_of_four (values_of fours)

-- one more before these, where there is room
abbrev pub with_first : {A : Type 0} → A → Few A → Few A
with_first x Zero = One x
with_first x (One a) = Two x a
with_first x (Two a b) = Three x a b
with_first x (Three a b c) = Four x a b c
with_first x (Four a b c d) = Four x a b c

-- the fours of a list that is longer than they are
abbrev pub fours_of : {A : Type 0} → List A → Few (A × A × A × A)
fours_of (a ∷ b ∷ c ∷ d ∷ e ∷ xs) = with_first (a, b, c, d) (fours_of (e ∷ xs))
fours_of _ = Zero

-- what is left after them
abbrev pub rest_of : {A : Type 0} → List A → Few A
rest_of [] = Zero
rest_of (a ∷ []) = One a
rest_of (a ∷ b ∷ []) = Two a b
rest_of (a ∷ b ∷ c ∷ []) = Three a b c
rest_of (a ∷ b ∷ c ∷ d ∷ []) = Four a b c d
rest_of (a ∷ b ∷ c ∷ d ∷ e ∷ xs) = rest_of (e ∷ xs)

-- both are found again in the list
found-again : {A : Type 0} (fours : Few (A × A × A × A)) (rest : Few A) → few_len fours ≤ 3 → 0 < few_len rest
    → (fours_of (values_by_four fours ++ values_of rest) ≡ fours) × (rest_of (values_by_four fours ++ values_of rest) ≡ rest)
found-again Zero (One a) short some = (refl, refl)
found-again Zero (Two a b) short some = (refl, refl)
found-again Zero (Three a b c) short some = (refl, refl)
found-again Zero (Four a b c d) short some = (refl, refl)
found-again (One p) (One a) short some = (refl, refl)
found-again (One p) (Two a b) short some = (refl, refl)
found-again (One p) (Three a b c) short some = (refl, refl)
found-again (One p) (Four a b c d) short some = (refl, refl)
found-again (Two p q) (One a) short some = (refl, refl)
found-again (Two p q) (Two a b) short some = (refl, refl)
found-again (Two p q) (Three a b c) short some = (refl, refl)
found-again (Two p q) (Four a b c d) short some = (refl, refl)
found-again (Three p q r) (One a) short some = (refl, refl)
found-again (Three p q r) (Two a b) short some = (refl, refl)
found-again (Three p q r) (Three a b c) short some = (refl, refl)
found-again (Three p q r) (Four a b c d) short some = (refl, refl)
found-again (Four p q r s) rest short some = absurd (omega arith)
found-again fours Zero short some = absurd (omega arith)

-- a chunk's fields are those of its values
pub parts_again : {A : Type 0} (c : Inside A) → few_len c.fours ≤ 3 → 0 < few_len c.rest
    → record { fours = fours_of (values_by_four c.fours ++ values_of c.rest); rest = rest_of (values_by_four c.fours ++ values_of c.rest) } ≡ c
parts_again c short some = let found = found-again c.fours c.rest short some in rw (found.0, found.1) refl

-- ---- one value after the other

-- where there is no value at an index, all are before it
all-before : {A : Type 0} (xs : List A) (i : ℕ) → slice_get xs i ≡ None → length xs ≤ i
all-before [] i none = omega arith
all-before (x ∷ xs) zero none = absurd (cc)
all-before (x ∷ xs) (suc i) none = let later = all-before xs i none in omega (arith, later)

pub appended_all : {A : Type 0} (front items xs : List A) (i : ℕ) → items ≡ front ++ take i xs → slice_get xs i ≡ None → items ≡ front ++ xs
appended_all front items xs i so none = so ∙ ap (λ l. front ++ l) (take_all i xs (all-before xs i none))

pub appended_one : {A : Type 0} (front items xs : List A) (i : ℕ) (x : A) → items ≡ front ++ take i xs → slice_get xs i ≡ Some x
    → items ++ x ∷ [] ≡ front ++ take (i + 1) xs
appended_one front items xs i x so is =
    rw (so, take_more xs i x (slice_get_within xs i x is), get_or_from_slice_get xs i x x is) (append_assoc front (take i xs) (x ∷ []))
