-- Emissions in a list, each with its ticket where it has one: those that were given up, and the others.
use Rattle.std.specs.Prelude.{⊤}
use Rattle.std.proofs.Common.{◌≡◌, ◌≢◌, ◌==◌, ◌||◌, ◌⊎◌, ⊎_elim, ℕ, ◌<◌, Option, Some, None, Bool, true, false, cond, List, [], ◌∷◌, ◌++◌, map, refl, sym, ap, ◌∙◌, subst, arith, append_assoc, eq-eqb, ne_eqb}
use Rattle.std.proofs.lemmas.List.{append-nil, map-append}
use Rattle.shared_lane.specs.Law.{Entry}
use Rattle.shared_core.specs.Story.{Interleaves}
use Rattle.shared_core.specs.Story.Interleaves.{none, left, right}
use Rattle.shared_flow.specs.Queue.{one_by, words_by}

-- an emission's ticket, where it has one, and whose it is with its word
abbrev pub Item : Type 0
Item = Option ℕ × Entry

abbrev pub entries_of : List Item → List Entry
entries_of l = map (λ (i : Item). i.1) l

-- without a ticket
abbrev pub plain : List Entry → List Item
plain es = map (λ (x : Entry). let i : Item = (None, x) in i) es

pub entries_plain : (es : List Entry) → entries_of (plain es) ≡ es
entries_plain [] = refl
entries_plain (x ∷ es) = ap (λ (l : List Entry). x ∷ l) (entries_plain es)

-- ---- those that were given up, and those that weren't

-- whether it was given up, by the tickets that were
abbrev pub is_out : (ℕ → Bool) → Option ℕ → Bool
is_out gone None = false
is_out gone (Some k) = gone k

abbrev pub kept : (ℕ → Bool) → List Item → List Item
kept gone [] = []
kept gone (i ∷ l) = cond (is_out gone i.0) (kept gone l) (i ∷ kept gone l)

abbrev pub left_out : (ℕ → Bool) → List Item → List Item
left_out gone [] = []
left_out gone (i ∷ l) = cond (is_out gone i.0) (i ∷ left_out gone l) (left_out gone l)

on_left : (c : Bool) (w : ℕ) {xs ys zs : List ℕ} → Interleaves xs ys zs → Interleaves (cond c (w ∷ []) [] ++ xs) ys (cond c (w ∷ []) [] ++ zs)
on_left true w r = left w r
on_left false w r = r

on_right : (c : Bool) (w : ℕ) {xs ys zs : List ℕ} → Interleaves xs ys zs → Interleaves xs (cond c (w ∷ []) [] ++ ys) (cond c (w ∷ []) [] ++ zs)
on_right true w r = right w r
on_right false w r = r

-- together they are all
pub parts : (e : ℕ) (gone : ℕ → Bool) (l : List Item) → Interleaves (words_by e (entries_of (kept gone l))) (words_by e (entries_of (left_out gone l))) (words_by e (entries_of l))
parts e gone [] = none
parts e gone (i ∷ l) = by (is_out gone i.0) (parts e gone l)
  where
    by : (b : Bool) → Interleaves (words_by e (entries_of (kept gone l))) (words_by e (entries_of (left_out gone l))) (words_by e (entries_of l))
        → Interleaves (words_by e (entries_of (cond b (kept gone l) (i ∷ kept gone l)))) (words_by e (entries_of (cond b (i ∷ left_out gone l) (left_out gone l)))) (one_by e i.1 ++ words_by e (entries_of l))
    by true r = on_right (i.1.0 == e) i.1.1 r
    by false r = on_left (i.1.0 == e) i.1.1 r

pub kept_append : (gone : ℕ → Bool) (xs ys : List Item) → kept gone (xs ++ ys) ≡ kept gone xs ++ kept gone ys
kept_append gone [] ys = refl
kept_append gone (i ∷ xs) ys = by (is_out gone i.0) (kept_append gone xs ys)
  where
    by : (b : Bool) → kept gone (xs ++ ys) ≡ kept gone xs ++ kept gone ys → cond b (kept gone (xs ++ ys)) (i ∷ kept gone (xs ++ ys)) ≡ cond b (kept gone xs) (i ∷ kept gone xs) ++ kept gone ys
    by true is = is
    by false is = ap (λ (t : List Item). i ∷ t) is

pub left_out-append : (gone : ℕ → Bool) (xs ys : List Item) → left_out gone (xs ++ ys) ≡ left_out gone xs ++ left_out gone ys
left_out-append gone [] ys = refl
left_out-append gone (i ∷ xs) ys = by (is_out gone i.0) (left_out-append gone xs ys)
  where
    by : (b : Bool) → left_out gone (xs ++ ys) ≡ left_out gone xs ++ left_out gone ys
        → cond b (i ∷ left_out gone (xs ++ ys)) (left_out gone (xs ++ ys)) ≡ cond b (i ∷ left_out gone xs) (left_out gone xs) ++ left_out gone ys
    by true is = ap (λ (t : List Item). i ∷ t) is
    by false is = is

-- without tickets none is given up
pub kept_plain : (gone : ℕ → Bool) (es : List Entry) → kept gone (plain es) ≡ plain es
kept_plain gone [] = refl
kept_plain gone (x ∷ es) = ap (λ (t : List Item). let i : Item = (None, x) in i ∷ t) (kept_plain gone es)

pub left_out-plain : (gone : ℕ → Bool) (es : List Entry) → left_out gone (plain es) ≡ []
left_out-plain gone [] = refl
left_out-plain gone (x ∷ es) = left_out-plain gone es

out_both : (g h : ℕ → Bool) (o : Option ℕ) → is_out (λ k. g k || h k) o ≡ (is_out g o || is_out h o)
out_both g h None = refl
out_both g h (Some k) = refl

-- those that weren't given up by some tickets, nor then by others
pub kept_both : (g h : ℕ → Bool) (l : List Item) → kept (λ k. g k || h k) l ≡ kept h (kept g l)
kept_both g h [] = refl
kept_both g h (i ∷ l) = ap (λ (b : Bool). cond b (kept (λ k. g k || h k) l) (i ∷ kept (λ k. g k || h k) l)) (out_both g h i.0) ∙ by (is_out g i.0) (kept_both g h l)
  where
    by_second : (c : Bool) → kept (λ k. g k || h k) l ≡ kept h (kept g l) → cond c (kept (λ k. g k || h k) l) (i ∷ kept (λ k. g k || h k) l) ≡ cond c (kept h (kept g l)) (i ∷ kept h (kept g l))
    by_second true is = is
    by_second false is = ap (λ (t : List Item). i ∷ t) is

    by : (b : Bool) → kept (λ k. g k || h k) l ≡ kept h (kept g l) → cond (b || is_out h i.0) (kept (λ k. g k || h k) l) (i ∷ kept (λ k. g k || h k) l) ≡ kept h (cond b (kept g l) (i ∷ kept g l))
    by true is = is
    by false is = by_second (is_out h i.0) is

-- ---- each ticket is one emission's

-- none has this ticket
abbrev pub Absent : ℕ → List Item → Type 0
Absent k [] = ⊤
Absent k (i ∷ l) = (i.0 ≢ Some k) × Absent k l

abbrev pub IsFresh : Option ℕ → List Item → Type 0
IsFresh None l = ⊤
IsFresh (Some k) l = Absent k l

-- no two have one ticket
abbrev pub Once : List Item → Type 0
Once [] = ⊤
Once (i ∷ l) = IsFresh i.0 l × Once l

not_out : (k : ℕ) (o : Option ℕ) → o ≢ Some k → is_out (λ j. k == j) o ≡ false
not_out k None ne = refl
not_out k (Some j) ne = ne_eqb k j (λ e. ne (ap Some (sym e)))

kept_absent : (k : ℕ) (l : List Item) → Absent k l → kept (λ j. k == j) l ≡ l
kept_absent k [] lacks = refl
kept_absent k (i ∷ l) lacks = ap (λ (b : Bool). cond b (kept (λ j. k == j) l) (i ∷ kept (λ j. k == j) l)) (not_out k i.0 lacks.0) ∙ ap (λ (t : List Item). i ∷ t) (kept_absent k l lacks.1)

absent_kept : (gone : ℕ → Bool) (k : ℕ) (l : List Item) → Absent k l → Absent k (kept gone l)
absent_kept gone k [] lacks = tt
absent_kept gone k (i ∷ l) lacks = by (is_out gone i.0) (absent_kept gone k l lacks.1)
  where
    by : (b : Bool) → Absent k (kept gone l) → Absent k (cond b (kept gone l) (i ∷ kept gone l))
    by true rest = rest
    by false rest = (lacks.0, rest)

fresh_kept : (gone : ℕ → Bool) (o : Option ℕ) (l : List Item) → IsFresh o l → IsFresh o (kept gone l)
fresh_kept gone None l lacks = tt
fresh_kept gone (Some k) l lacks = absent_kept gone k l lacks

pub once_kept : (gone : ℕ → Bool) (l : List Item) → Once l → Once (kept gone l)
once_kept gone [] once = tt
once_kept gone (i ∷ l) once = by (is_out gone i.0) (once_kept gone l once.1)
  where
    by : (b : Bool) → Once (kept gone l) → Once (cond b (kept gone l) (i ∷ kept gone l))
    by true rest = rest
    by false rest = (fresh_kept gone i.0 l once.0, rest)

absent_in : (us vs : List Item) (i : Item) (k : ℕ) → Absent k (us ++ i ∷ vs) → i.0 ≢ Some k
absent_in [] vs i k lacks = lacks.0
absent_in (u ∷ us) vs i k lacks = absent_in us vs i k lacks.1

absent_front : (us vs : List Item) (i : Item) (k : ℕ) → i.0 ≡ Some k → Once (us ++ i ∷ vs) → Absent k us
absent_front [] vs i k is once = tt
absent_front (u ∷ us) vs i k is once = ((λ e. absent_in us vs i k (subst (λ (o : Option ℕ). IsFresh o (us ++ i ∷ vs)) e once.0) is), absent_front us vs i k is once.1)

absent_back : (us vs : List Item) (i : Item) (k : ℕ) → i.0 ≡ Some k → Once (us ++ i ∷ vs) → Absent k vs
absent_back [] vs i k is once = subst (λ (o : Option ℕ). IsFresh o vs) is once.0
absent_back (u ∷ us) vs i k is once = absent_back us vs i k is once.1

-- by one ticket one of them is given up, and no other
pub kept_others : (us vs : List Item) (i : Item) (k : ℕ) → i.0 ≡ Some k → Once (us ++ i ∷ vs) → kept (λ j. k == j) (us ++ i ∷ vs) ≡ us ++ vs
kept_others us vs i k is once =
    let here : is_out (λ j. k == j) i.0 ≡ true = ap (is_out (λ j. k == j)) is ∙ eq-eqb k k refl in
    let back : kept (λ j. k == j) (i ∷ vs) ≡ vs = ap (λ (b : Bool). cond b (kept (λ j. k == j) vs) (i ∷ kept (λ j. k == j) vs)) here ∙ kept_absent k vs (absent_back us vs i k is once) in
    kept_append (λ j. k == j) us (i ∷ vs) ∙ (λ t. kept_absent k us (absent_front us vs i k is once) t ++ back t)

absent_append : (k : ℕ) (xs ys : List Item) → Absent k xs → Absent k ys → Absent k (xs ++ ys)
absent_append k [] ys a b = b
absent_append k (x ∷ xs) ys a b = (a.0, absent_append k xs ys a.1 b)

absent_plain : (k : ℕ) (es : List Entry) → Absent k (plain es)
absent_plain k [] = tt
absent_plain k (x ∷ es) = ((λ (e : None ≡ Some k). cc), absent_plain k es)

fresh_plain : (o : Option ℕ) (l : List Item) (es : List Entry) → IsFresh o l → IsFresh o (l ++ plain es)
fresh_plain None l es fresh = tt
fresh_plain (Some k) l es fresh = absent_append k l (plain es) fresh (absent_plain k es)

once_only-plain : (es : List Entry) → Once (plain es)
once_only-plain [] = tt
once_only-plain (x ∷ es) = (tt, once_only-plain es)

-- some without tickets come to them
pub once_plain : (l : List Item) (es : List Entry) → Once l → Once (l ++ plain es)
once_plain [] es once = once_only-plain es
once_plain (i ∷ l) es once = (fresh_plain i.0 l es once.0, once_plain l es once.1)

fresh_more : (o : Option ℕ) (l : List Item) (x : Entry) (k : ℕ) → IsFresh o l → (o ≡ Some k → ⊥) → IsFresh o (l ++ (let i : Item = (Some k, x) in i) ∷ [])
fresh_more None l x k fresh ne = tt
fresh_more (Some j) l x k fresh ne = absent_append j l _ fresh ((λ e. ne (sym e)), tt)

-- one with a ticket that none has
pub once_more : (l : List Item) (x : Entry) (k : ℕ) → Once l → Absent k l → Once (l ++ (let i : Item = (Some k, x) in i) ∷ [])
once_more [] x k once lacks = (tt, tt)
once_more (i ∷ l) x k once lacks = (fresh_more i.0 l x k once.0 lacks.0, once_more l x k once.1 lacks.1)

-- ---- tickets below a number

abbrev pub IsBelow : ℕ → Option ℕ → Type 0
IsBelow n None = ⊤
IsBelow n (Some k) = k < n

abbrev pub AllBelow : ℕ → List Item → Type 0
AllBelow n [] = ⊤
AllBelow n (i ∷ l) = IsBelow n i.0 × AllBelow n l

pub below_absent : (n : ℕ) (l : List Item) → AllBelow n l → Absent n l
below_absent n [] low = tt
below_absent n (i ∷ l) low = ((λ e. let same : n < n = subst (IsBelow n) e low.0 in absurd (omega (arith, same))), below_absent n l low.1)

pub below_append : (n : ℕ) (xs ys : List Item) → AllBelow n xs → AllBelow n ys → AllBelow n (xs ++ ys)
below_append n [] ys a b = b
below_append n (x ∷ xs) ys a b = (a.0, below_append n xs ys a.1 b)

pub below_plain : (n : ℕ) (es : List Entry) → AllBelow n (plain es)
below_plain n [] = tt
below_plain n (x ∷ es) = (tt, below_plain n es)

one_below : (n m : ℕ) (o : Option ℕ) → n < m → IsBelow n o → IsBelow m o
one_below n m None less low = tt
one_below n m (Some k) less low = omega (arith, less, low)

pub below_more : (n m : ℕ) (l : List Item) → n < m → AllBelow n l → AllBelow m l
below_more n m [] less low = tt
below_more n m (i ∷ l) less low = (one_below n m i.0 less low.0, below_more n m l less low.1)

pub below_kept : (gone : ℕ → Bool) (n : ℕ) (l : List Item) → AllBelow n l → AllBelow n (kept gone l)
below_kept gone n [] low = tt
below_kept gone n (i ∷ l) low = by (is_out gone i.0) (below_kept gone n l low.1)
  where
    by : (b : Bool) → AllBelow n (kept gone l) → AllBelow n (cond b (kept gone l) (i ∷ kept gone l))
    by true rest = rest
    by false rest = (low.0, rest)

pub below_at : (n : ℕ) (us vs : List Item) (i : Item) → AllBelow n (us ++ i ∷ vs) → IsBelow n i.0
below_at n [] vs i low = low.0
below_at n (u ∷ us) vs i low = below_at n us vs i low.1
