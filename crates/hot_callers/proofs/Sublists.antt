-- Lists that stand in another one, in their order and once.
use Rattle.std.proofs.Common.{◌≡◌, ◌⊎◌, ⊎_elim, inl, inr, ℕ, ◌-◌, ◌≤◌, Option, Some, None, List, [], ◌∷◌, ◌++◌, length, slice_get, refl, sym, ap, ◌∙◌, subst, arith}
use Rattle.std.specs.List.{cons_option, range_with_len}
use Rattle.shared_core.specs.Flow.{values_at}
use Rattle.shared_core.specs.Story.{Interleaves, none, left, right}
use Rattle.shared_core.proofs.Lists.{values_at-range}

-- the first list stands in the second
abbrev pub Within : List ℕ → List ℕ → Type 0
Within xs [] = xs ≡ []
Within xs (z ∷ zs) = Within xs zs ⊎ ((rest : List ℕ) × (xs ≡ z ∷ rest) × Within rest zs)

-- so it does where it makes up the second with others, and where it stands there, there are such others
pub of_parts : {xs ys zs : List ℕ} → Interleaves xs ys zs → Within xs zs
of_parts none = refl
of_parts (left x {xs = xs} r) = inr (xs, refl, of_parts r)
of_parts (right y r) = inl (of_parts r)

pub with_others : (xs zs : List ℕ) → Within xs zs → (others : List ℕ) × Interleaves xs others zs
with_others xs [] empty = ([], subst (λ (l : List ℕ). Interleaves l [] []) (sym empty) none)
with_others xs (z ∷ zs) (inl later) = let more = with_others xs zs later in (z ∷ more.0, right z more.1)
with_others xs (z ∷ zs) (inr first) =
    let more = with_others first.0 zs first.2 in (more.0, subst (λ (l : List ℕ). Interleaves l more.0 (z ∷ zs)) (sym first.1) (left z more.1))

-- ---- which lists stand in which

pub within_none : (zs : List ℕ) → Within [] zs
within_none [] = refl
within_none (z ∷ zs) = inl (within_none zs)

pub within_itself : (zs : List ℕ) → Within zs zs
within_itself [] = refl
within_itself (z ∷ zs) = inr (zs, refl, within_itself zs)

pub within_then : (xs ys zs : List ℕ) → Within xs ys → Within ys zs → Within xs zs
within_then xs ys [] in_ys empty = subst (Within xs) empty in_ys
within_then xs ys (z ∷ zs) in_ys (inl later) = inl (within_then xs ys zs in_ys later)
within_then xs ys (z ∷ zs) in_ys (inr first) =
    let here : Within xs (z ∷ first.0) = subst (Within xs) first.1 in_ys in
    ⊎_elim
    (λ (h : Within xs first.0). inl (within_then xs first.0 zs h first.2))
    (λ (h : (rest : List ℕ) × (xs ≡ z ∷ rest) × Within rest first.0). inr (h.0, h.1, within_then h.0 first.0 zs h.2 first.2))
    here

-- a list stands in one that begins or ends with it
pub within_front : (xs ys : List ℕ) → Within xs (xs ++ ys)
within_front [] ys = within_none ys
within_front (x ∷ xs) ys = inr (xs, refl, within_front xs ys)

pub within_back : (xs ys : List ℕ) → Within ys (xs ++ ys)
within_back [] ys = within_itself ys
within_back (x ∷ xs) ys = inl (within_back xs ys)

pub within_under : (ws xs ys : List ℕ) → Within xs ys → Within (ws ++ xs) (ws ++ ys)
within_under [] xs ys h = h
within_under (w ∷ ws) xs ys h = inr (ws ++ xs, refl, within_under ws xs ys h)

-- one that stands in another is no longer, and one that is as long is that list
within_length : (xs zs : List ℕ) → Within xs zs → length xs ≤ length zs
within_length xs [] empty = let none = ap (λ (l : List ℕ). length l) empty in omega (arith, none)
within_length xs (z ∷ zs) (inl later) = let rest = within_length xs zs later in omega (arith, rest)
within_length xs (z ∷ zs) (inr first) =
    let rest = within_length first.0 zs first.2 in
    let is = ap (λ (l : List ℕ). length l) first.1 in omega (arith, rest, is)

pub within_whole : (xs zs : List ℕ) → Within xs zs → length zs ≤ length xs → xs ≡ zs
within_whole xs [] empty long = empty
within_whole xs (z ∷ zs) (inl later) long = let rest = within_length xs zs later in let no : ⊥ = omega (arith, rest, long) in absurd no
within_whole xs (z ∷ zs) (inr first) long =
    let is = ap (λ (l : List ℕ). length l) first.1 in
    first.1 ∙ ap (λ (l : List ℕ). z ∷ l) (within_whole first.0 zs first.2 (omega (arith, is, long)))

-- ---- the values at some of a list's indexes

both_options : (o : Option ℕ) (xs ys : List ℕ) → Within xs ys → Within (cons_option o xs) (cons_option o ys)
both_options None xs ys h = h
both_options (Some v) xs ys h = inr (xs, refl, h)

one_option : (o : Option ℕ) (xs ys : List ℕ) → Within xs ys → Within xs (cons_option o ys)
one_option None xs ys h = h
one_option (Some v) xs ys h = inl h

values_among : (l : List ℕ) {xs ys zs : List ℕ} → Interleaves xs ys zs → Within (values_at l xs) (values_at l zs)
values_among l none = refl
values_among l (left i {xs = xs} {zs = zs} r) = both_options (slice_get l i) (values_at l xs) (values_at l zs) (values_among l r)
values_among l (right i {xs = xs} {zs = zs} r) = one_option (slice_get l i) (values_at l xs) (values_at l zs) (values_among l r)

-- where the indexes are some of all, in order and once, the values stand in the list
pub values_within : (l kept dropped : List ℕ) → Interleaves kept dropped (range_with_len 0 (length l)) → Within (values_at l kept) l
values_within l kept dropped all =
    let count : length l ≡ length l - 0 = omega arith in
    let whole : values_at l (range_with_len 0 (length l)) ≡ l = ap (λ n. values_at l (range_with_len 0 n)) count ∙ values_at-range 0 l in
    subst (Within (values_at l kept)) whole (values_among l all)

-- ---- parts that grow

pub swapped : {xs ys zs : List ℕ} → Interleaves xs ys zs → Interleaves ys xs zs
swapped none = none
swapped (left x r) = right x (swapped r)
swapped (right y r) = left y (swapped r)

only_left : (xs : List ℕ) → Interleaves xs [] xs
only_left [] = none
only_left (x ∷ xs) = left x (only_left xs)

pub alone : {xs ys zs : List ℕ} → Interleaves xs ys zs → ys ≡ [] → zs ≡ xs
alone none empty = refl
alone (left x r) empty = ap (λ (l : List ℕ). x ∷ l) (alone r empty)
alone (right y r) empty = let no : ⊥ = cc in absurd no

-- these two make up a list in which the third stands
abbrev pub MakeUp : List ℕ → List ℕ → List ℕ → Type 0
MakeUp xs ys zs = (mixed : List ℕ) × Interleaves xs ys mixed × Within zs mixed

longer_from : (x : ℕ) (xs ys zs : List ℕ) → ((longer : List ℕ) → Within xs longer → MakeUp longer ys zs) → (longer : List ℕ) → Within (x ∷ xs) longer → MakeUp longer ys (x ∷ zs)
longer_from x xs ys zs rest [] empty = let no : ⊥ = cc in absurd no
longer_from x xs ys zs rest (y ∷ longer) (inl later) = let more = longer_from x xs ys zs rest longer later in (y ∷ more.0, left y more.1, inl more.2)
longer_from x xs ys zs rest (y ∷ longer) (inr first) =
    let same : x ≡ y = cc in
    let others : first.0 ≡ xs = cc in
    let more = rest longer (subst (λ (l : List ℕ). Within l longer) others first.2) in
    (y ∷ more.0, left y more.1, inr (zs, ap (λ n. n ∷ zs) same, more.2))

longer_left : {xs ys zs : List ℕ} → Interleaves xs ys zs → (longer : List ℕ) → Within xs longer → MakeUp longer ys zs
longer_left none longer within = (longer, only_left longer, within_none longer)
longer_left (left x {xs = xs} {ys = ys} {zs = zs} r) longer within = longer_from x xs ys zs (longer_left r) longer within
longer_left (right y {zs = zs} r) longer within = let more = longer_left r longer within in (y ∷ more.0, right y more.1, inr (zs, refl, more.2))

-- where two lists make up a third, longer ones, in which they stand, make up a list in which that stands
pub make_up_longer : {xs ys zs : List ℕ} → Interleaves xs ys zs → (first second : List ℕ) → Within xs first → Within ys second → MakeUp first second zs
make_up_longer {ys = ys} {zs = zs} both first second in_first in_second =
    let one = longer_left both first in_first in
    let two = longer_left (swapped one.1) second in_second in
    (two.0, swapped two.1, within_then zs one.0 two.0 one.2 two.2)
