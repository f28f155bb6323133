-- What is noted of names first.
use Rattle.std.proofs.Common.{◌≡◌, ◌∙◌, ◌+◌, ℕ, Bool, true, false, if◌then◌else◌, List, ◌∷◌, Option, Some, None, refl, ap, bytes_eq}
use Rattle.std.specs.Prelude.{is_some, unwrap_or}
use Rattle.std.proofs.lemmas.Slice.Eq.{bytes_eq-Decides}
use Rattle.marble_marks.specs.declared.firsts.Firsts.{Firsts}
use Rattle.marble_marks.specs.Firsts.{noted_of, first, or_later}
use Rattle.marble_marks.specs.Marks.{row_after}

-- of equal names the same is noted
pub same_noted : (firsts : Firsts) (name other : List ℕ) → bytes_eq name other ≡ true → noted_of firsts name ≡ noted_of firsts other
same_noted firsts name other same = ap (noted_of firsts) ((bytes_eq-Decides name other).0 same)

-- a name that has a number keeps it
pub stays : (its others : Option ℕ) (is_its : Bool) (number : ℕ) → (is_its ≡ true → its ≡ others) → is_some its ≡ true → others ≡ first others is_its number
stays its (Some noted) is_its number same has = refl
stays its None false number same has = refl
stays its None true number same has = let none : its ≡ None = same refl in cc

-- a name that has none gets this
pub gets : (its others after : Option ℕ) (is_its : Bool) (number : ℕ) → (is_its ≡ true → its ≡ others) → is_some its ≡ false → after ≡ (if is_its then Some number else others) → after ≡ first others is_its number
gets its (Some noted) after false number same has given = given
gets its (Some noted) after true number same has given = let some : its ≡ Some noted = same refl in cc
gets its None after false number same has given = given
gets its None after true number same has given = given

-- what is not noted stays
pub kept : (noted : Option ℕ) (number : ℕ) → noted ≡ first noted false number
kept (Some noted) number = refl
kept None number = refl

-- ---- one step of a list

one_new : (is_its : Bool) (row below : ℕ) → unwrap_or (first None is_its row) below ≡ (if is_its then row else below)
one_new true row below = refl
one_new false row below = refl

pub one_row : (before after : Option ℕ) (row : ℕ) (known name : List ℕ) (rest : List (List ℕ)) → after ≡ first before (bytes_eq known name) row →
    unwrap_or after (row_after (row + 1) rest name) ≡ unwrap_or before (row_after row (known ∷ rest) name)
one_row (Some noted) after row known name rest given = ap (λ found. unwrap_or found (row_after (row + 1) rest name)) given
one_row None after row known name rest given =
    ap (λ found. unwrap_or found (row_after (row + 1) rest name)) given ∙ one_new (bytes_eq known name) row (row_after (row + 1) rest name)

pub later : (noted rest : Option ℕ) (after : Option ℕ) (is_its : Bool) (number : ℕ) → after ≡ first noted is_its number → or_later after rest ≡ or_later noted (if is_its then Some number else rest)
later (Some noted) rest after is_its number given = ap (λ found. or_later found rest) given
later None rest after true number given = ap (λ found. or_later found rest) given
later None rest after false number given = ap (λ found. or_later found rest) given

pub once : (noted : Option ℕ) (rest : Bool) (after : Option ℕ) (is_its : Bool) (number : ℕ) → after ≡ first noted is_its number →
    (if is_some after then true else rest) ≡ (if is_some noted then true else (if is_its then true else rest))
once (Some noted) rest after is_its number given = ap (λ found. if is_some found then true else rest) given
once None rest after true number given = ap (λ found. if is_some found then true else rest) given
once None rest after false number given = ap (λ found. if is_some found then true else rest) given

pub none_later : (noted : Option ℕ) → or_later noted None ≡ noted
none_later (Some noted) = refl
none_later None = refl

pub none_more : (has : Bool) → (if has then true else false) ≡ has
none_more true = refl
none_more false = refl
