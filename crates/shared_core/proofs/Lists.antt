-- Lists of indexes: which a list contains, and what a filter leaves of a range.
use Rattle.std.proofs.Common.{◌≡◌, ℕ, zero, suc, ◌+◌, ◌-◌, ◌<◌, ◌≤◌, Bool, true, false, ◌||◌, cond, eqb, List, [], ◌∷◌, ◌++◌, length, drop, slice_get, refl, sym, ap, ◌∙◌, arith, add-zero, suc-add, zero-add}
use Rattle.std.proofs.Math.Bool.{or-true}
use Rattle.std.proofs.lemmas.Bool.{eqb-true, eqb-false, eq-eqb}
use Rattle.std.specs.List.{cons_option, filter, range_with_len}
use Rattle.shared_core.specs.Flow.{contains, values_at}
use Rattle.shared_core.specs.Story.{Interleaves, none, left, right}

pub range-append : (a m n : ℕ) → range_with_len a (m + n) ≡ range_with_len a m ++ range_with_len (a + m) n
range-append a zero n = rw (zero-add, add-zero) refl
range-append a (suc m) n = rw (suc-add) (ap (λ r. a ∷ r) (range-append (a + 1) m n ∙ ap (λ b. range_with_len (a + 1) m ++ range_with_len b n) (omega arith)))

pub length-range : (a n : ℕ) → length (range_with_len a n) ≡ n
length-range a zero = refl
length-range a (suc n) = ap suc (length-range (a + 1) n)

pub or_regroup : (a b c : Bool) → (a || (b || c)) ≡ ((a || b) || c)
or_regroup true b c = refl
or_regroup false b c = refl

or_swap : (a b c : Bool) → (a || (b || c)) ≡ (b || (a || c))
or_swap true b c = sym (or-true b)
or_swap false b c = refl

-- what a range contains lies in it
pub range_bounds : (a n i : ℕ) → contains (range_with_len a n) i ≡ true → (a ≤ i) × (i < a + n)
range_bounds a zero i h = absurd (cc)
range_bounds a (suc n) i h =
    elim (eqb i a) as (λ b. eqb i a ≡ b → (b || contains (range_with_len (a + 1) n) i) ≡ true → (a ≤ i) × (i < a + suc n)) [
      | true ↦ λ e _. let same = eqb-true i a e in (omega arith, omega arith)
      | false ↦ λ _ k. let rest = range_bounds (a + 1) n i k in (omega arith, omega arith)
    ] refl h

-- what lies before a range isn't in it
pub range_above : (a n i : ℕ) → i < a → contains (range_with_len a n) i ≡ false
range_above a n i below =
    elim (contains (range_with_len a n) i) as (λ b. contains (range_with_len a n) i ≡ b → b ≡ false) [
      | true ↦ λ e. let bounds = range_bounds a n i e in absurd (omega arith)
      | false ↦ λ _. refl
    ] refl

-- nor what lies after it
pub range_below : (a n i : ℕ) → a + n ≤ i → contains (range_with_len a n) i ≡ false
range_below a n i above =
    elim (contains (range_with_len a n) i) as (λ b. contains (range_with_len a n) i ≡ b → b ≡ false) [
      | true ↦ λ e. let bounds = range_bounds a n i e in absurd (omega arith)
      | false ↦ λ _. refl
    ] refl

-- what lies in a range
pub range_within : (a n i : ℕ) → a ≤ i → i < a + n → contains (range_with_len a n) i ≡ true
range_within a zero i low high = absurd (omega arith)
range_within a (suc n) i low high =
    elim (eqb i a) as (λ b. eqb i a ≡ b → (b || contains (range_with_len (a + 1) n) i) ≡ true) [
      | true ↦ λ _. refl
      | false ↦ λ other. let apart = eqb-false i a other in range_within (a + 1) n i (omega arith) (omega arith)
    ] refl

pub contains-push : (xs : List ℕ) (y n : ℕ) → contains (xs ++ y ∷ []) n ≡ (contains xs n || eqb n y)
contains-push [] y n = elim (eqb n y) as (λ b. (b || false) ≡ b) [ true ↦ refl | false ↦ refl ]
contains-push (x ∷ xs) y n = ap (λ b. eqb n x || b) (contains-push xs y n) ∙ or_regroup (eqb n x) (contains xs n) (eqb n y)

pub Interleaves-push_left : {xs ys zs : List ℕ} (z : ℕ) → Interleaves xs ys zs → Interleaves (xs ++ z ∷ []) ys (zs ++ z ∷ [])
Interleaves-push_left z none = left z none
Interleaves-push_left z (left x r) = left x (Interleaves-push_left z r)
Interleaves-push_left z (right y r) = right y (Interleaves-push_left z r)

pub Interleaves-push_right : {xs ys zs : List ℕ} (z : ℕ) → Interleaves xs ys zs → Interleaves xs (ys ++ z ∷ []) (zs ++ z ∷ [])
Interleaves-push_right z none = right z none
Interleaves-push_right z (left x r) = left x (Interleaves-push_right z r)
Interleaves-push_right z (right y r) = right y (Interleaves-push_right z r)

-- what the parts contain is what the whole contains
pub contains-Interleaves : {xs ys zs : List ℕ} (n : ℕ) → Interleaves xs ys zs → (contains xs n || contains ys n) ≡ contains zs n
contains-Interleaves n none = refl
contains-Interleaves n (left x {xs = xs} {ys = ys} r) = sym (or_regroup (eqb n x) (contains xs n) (contains ys n)) ∙ ap (λ b. eqb n x || b) (contains-Interleaves n r)
contains-Interleaves n (right y {xs = xs} {ys = ys} r) = or_swap (contains xs n) (eqb n y) (contains ys n) ∙ ap (λ b. eqb n y || b) (contains-Interleaves n r)

pub filter_none : (p : ℕ → Bool) (xs : List ℕ) → ((i : ℕ) → contains xs i ≡ true → p i ≡ false) → filter p xs ≡ []
filter_none p [] h = refl
filter_none p (x ∷ xs) h =
    let rest = filter_none p xs (λ i k. h i (ap (λ b. eqb i x || b) k ∙ or-true (eqb i x))) in
    let here = h x (ap (λ b. b || contains xs x) (eq-eqb x x refl)) in
    ap (λ b. cond b (x ∷ filter p xs) (filter p xs)) here ∙ rest

pub filter_all : (p : ℕ → Bool) (xs : List ℕ) → ((i : ℕ) → contains xs i ≡ true → p i ≡ true) → filter p xs ≡ xs
filter_all p [] h = refl
filter_all p (x ∷ xs) h =
    let rest = filter_all p xs (λ i k. h i (ap (λ b. eqb i x || b) k ∙ or-true (eqb i x))) in
    let here = h x (ap (λ b. b || contains xs x) (eq-eqb x x refl)) in
    ap (λ b. cond b (x ∷ filter p xs) (filter p xs)) here ∙ ap (λ r. x ∷ r) rest

-- an index one further on in a longer list
values_at-later : {T : Type 0} (x : T) (xs : List T) (a n : ℕ) → values_at (x ∷ xs) (range_with_len (suc a) n) ≡ values_at xs (range_with_len a n)
values_at-later x xs a zero = refl
values_at-later x xs a (suc n) = rw (suc-add a 1) (ap (cons_option (slice_get xs a)) (values_at-later x xs (a + 1) n))

values_at-nil : {T : Type 0} (indexes : List ℕ) → values_at {T = T} [] indexes ≡ []
values_at-nil [] = refl
values_at-nil (i ∷ indexes) = values_at-nil indexes

drop-nil : {T : Type 0} (a : ℕ) → drop {A = T} a [] ≡ []
drop-nil zero = refl
drop-nil (suc a) = refl

-- the values at the indexes of a range to the list's end
pub values_at-range : {T : Type 0} (a : ℕ) (xs : List T) → values_at xs (range_with_len a (length xs - a)) ≡ drop a xs
values_at-range a [] = values_at-nil (range_with_len a (0 - a)) ∙ sym (drop-nil a)
values_at-range zero (x ∷ xs) =
    let all : suc (length xs) - 0 ≡ suc (length xs) = omega arith in
    let rest = values_at-later x xs 0 (length xs) in
    let whole = values_at-range 0 xs in
    let same : length xs - 0 ≡ length xs = omega arith in
    rw all (ap (λ r. x ∷ r) (rest ∙ rw same at whole))
values_at-range (suc a) (x ∷ xs) =
    let same : suc (length xs) - suc a ≡ length xs - a = omega arith in
    rw same (values_at-later x xs a (length xs - a) ∙ values_at-range a xs)
