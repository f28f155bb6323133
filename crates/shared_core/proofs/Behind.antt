-- Which places are noted as those furthest behind, and from where on all stand.
use Rattle.std.proofs.Common.{◌≡◌, ◌≢◌, ℕ, zero, suc, ◌+◌, ◌<◌, ◌≤◌, Bool, true, false, ◌&&◌, ◌||◌, ◌⊎◌, inl, inr, ⊎_elim, eqb, ltb, List, [], ◌∷◌, ◌++◌, length, get_or, set, All, Some, slice_get, refl, sym, ap, ◌∙◌, subst, arith}
use Rattle.std.proofs.lemmas.Bool.{eqb-true, eq-eqb, lt-ltb, le-ltb, cases_lt}
use Rattle.std.proofs.lemmas.Bool.Decides.{eqb_tells}
use Rattle.std.proofs.lemmas.List.Folds.{list_any-append}
use Rattle.std.proofs.lemmas.Option.{same_Some, slice_get_within, slice_get-get_or, get_or_from_slice_get}
use Rattle.std.specs.List.{list_all}
use Rattle.circular_buffer.proofs.Places.{slice_get-set_same, slice_get-set_other, slice_get-append_left}
use Rattle.shared_core.specs.declared.place.Place.{Place}
use Rattle.shared_core.specs.Places.{IsFrom, StandsFrom, is_noted, NotedFrom, OthersFrom}

or_false : (a b : Bool) → (a || b) ≡ false → (a ≡ false) × (b ≡ false)
or_false true b none = absurd (cc)
or_false false b none = (refl, none)

or_true : (a b : Bool) → (a || b) ≡ true → (a ≡ true) ⊎ (b ≡ true)
or_true true b some = inl refl
or_true false b some = inr some

-- what isn't noted once this index was written over the one at k was it, or wasn't noted before
pub unnoted-set : (noted : List ℕ) (k x at : ℕ) → k < length noted → is_noted (set noted k x) at ≡ false
    → (x ≢ at) × ((is_noted noted at ≡ false) ⊎ (slice_get noted k ≡ Some at))
unnoted-set [] k x at inside none = absurd (omega arith)
unnoted-set (n ∷ ns) zero x at inside none =
    let parts = or_false (eqb x at) (is_noted ns at) none in
    let apart = λ (same : x ≡ at). let this : eqb x at ≡ true = eq-eqb x at same in absurd (cc) in (
      apart,
      elim (eqb n at) as (λ b. eqb n at ≡ b → ((b || is_noted ns at) ≡ false) ⊎ (Some n ≡ Some at)) [
        | true ↦ λ is. inr (ap Some (eqb-true n at is))
        | false ↦ λ is. inl parts.1
      ] refl,
    )
unnoted-set (n ∷ ns) (suc k) x at inside none =
    let parts = or_false (eqb n at) (is_noted (set ns k x) at) none in
    let rest = unnoted-set ns k x at (omega arith) parts.1 in (
      rest.0,
      ⊎_elim
          (λ (before : is_noted ns at ≡ false). inl (ap (λ b. b || is_noted ns at) parts.0 ∙ before))
          (λ (here : slice_get ns k ≡ Some at). inr here)
          rest.1,
    )

-- ---- a look at one more place

module _ (places : List Place) (noted : List ℕ) (at others least : ℕ) (fewer : least ≤ others) (known : OthersFrom at noted others places) where
  -- it is noted, in place of another one
  pub taken_from : (k ahead : ℕ) → k < length noted → least ≤ ahead → ((i : ℕ) → slice_get noted k ≡ Some i → StandsFrom places i ahead)
      → OthersFrom (at + 1) (set noted k at) least places
  taken_from k ahead inside below from i before none p gets =
      let left = unnoted-set noted k at i inside none in
      ⊎_elim
      (λ (unnoted : is_noted noted i ≡ false). let this = known i (omega (arith, before, left.0)) unnoted p gets in omega (arith, this, fewer))
      (λ (was : slice_get noted k ≡ Some i). let this = from i was p gets in omega (arith, this, below))
      left.1

  -- it isn't
  pub left_from : StandsFrom places at least → OthersFrom (at + 1) noted least places
  left_from stands i before none p gets =
      ⊎_elim
      (λ (earlier : i < at). let this = known i earlier none p gets in omega (arith, this, fewer))
      (λ (later : at ≤ i). let here : i ≡ at = omega (arith, before, later) in stands p (ap (slice_get places) (sym here) ∙ gets))
      (cases_lt i at)

-- what is read of the noted ones is what stands there
pub read_from : (places : List Place) (noted : List ℕ) (k ahead : ℕ) → StandsFrom places (get_or noted k 0) ahead → (i : ℕ) → slice_get noted k ≡ Some i → StandsFrom places i ahead
read_from places noted k ahead stands i gets = subst (λ n. StandsFrom places n ahead) (get_or_from_slice_get noted k i 0 gets) stands

-- one more of the noted ones
pub noted_more : (places : List Place) (noted : List ℕ) (x all one least : ℕ) → NotedFrom noted all places → StandsFrom places x one → least ≤ all → least ≤ one
    → NotedFrom (noted ++ x ∷ []) least places
noted_more places noted x all one least known stands below within i is p gets =
    ⊎_elim
    (λ (before : is_noted noted i ≡ true). let this = known i before p gets in omega (arith, this, below))
    (λ (last : is_noted (x ∷ []) i ≡ true).
    ⊎_elim
    (λ (same : eqb x i ≡ true). let this = stands p (ap (slice_get places) (eqb-true x i same) ∙ gets) in omega (arith, this, within))
    (λ (never : false ≡ true). absurd (cc))
    (or_true (eqb x i) false last))
    (or_true (is_noted noted i) (is_noted (x ∷ []) i) (sym (list_any-append (λ n. eqb n i) noted (x ∷ [])) ∙ is))

-- ---- all places

-- from where on both stand, those that are noted and the others, all stand
pub all_from : (places : List Place) (noted : List ℕ) (a b least : ℕ) → NotedFrom noted a places → OthersFrom (length places) noted b places → least ≤ a → least ≤ b
    → All (IsFrom least) places
all_from places noted a b least known others low below k d inside =
    let gets = slice_get-get_or places k d inside in
    elim (is_noted noted k) as (λ v. is_noted noted k ≡ v → least ≤ (get_or places k d).position) [
      | true ↦ λ is. let this = known k is (get_or places k d) gets in omega (arith, this, low)
      | false ↦ λ none. let this = others k inside none (get_or places k d) gets in omega (arith, this, below)
    ] refl

-- all are past a number below the least position
all_past : (n : ℕ) (places : List Place) → All (λ (p : Place). n < p.position) places → list_all (λ p. ltb n p.position) places ≡ true
all_past n [] past = refl
all_past n (p ∷ places) past =
    let here : n < p.position = past 0 p (omega arith) in
    ap (λ b. b && list_all (λ p. ltb n p.position) places) (lt-ltb n p.position here) ∙ all_past n places (λ k d inside. past (suc k) d (omega arith))

-- whether all are past a number is told by the least position
pub past-least : (n least : ℕ) (places : List Place) → All (IsFrom least) places → (list_all (λ p. ltb n p.position) places ≡ true → n < least)
    → list_all (λ p. ltb n p.position) places ≡ ltb n least
past-least n least places from reached =
    ⊎_elim
    (λ (past : n < least).
    all_past n places (λ k d inside. let this = from k d inside in omega (arith, this, past)) ∙ sym (lt-ltb n least past))
    (λ (behind : least ≤ n).
    elim (list_all (λ p. ltb n p.position) places) as (λ v. list_all (λ p. ltb n p.position) places ≡ v → v ≡ ltb n least) [
      | true ↦ λ is. let this = reached is in absurd (omega (arith, this, behind))
      | false ↦ λ is. sym (le-ltb n least behind)
    ] refl)
    (cases_lt n least)

-- ---- what becomes of the places

-- one stands further on
pub others-set : (places : List Place) (noted : List ℕ) (least k : ℕ) (old new : Place) → slice_get places k ≡ Some old → old.position ≤ new.position
    → OthersFrom (length places) noted least places → OthersFrom (length places) noted least (set places k new)
others-set places noted least k old new was further known i inside none p gets =
    ⊎_elim
    (λ (same : (eqb i k ≡ true) × (i ≡ k)).
    let this = known i inside none old (ap (slice_get places) same.1 ∙ was) in
    let is : new ≡ p = same_Some new p (sym (slice_get-set_same places k new (slice_get_within places k old was)) ∙ ap (slice_get (set places k new)) (sym same.1) ∙ gets) in
    omega (arith, this, further, ap (λ (p : Place). p.position) is))
    (λ (other : (eqb i k ≡ false) × (i ≢ k)). known i inside none p (sym (slice_get-set_other places k i new other.1) ∙ gets))
    (eqb_tells i k)

last_is : (places : List Place) (new : Place) → slice_get (places ++ new ∷ []) (length places) ≡ Some new
last_is [] new = refl
last_is (p ∷ places) new = last_is places new

-- one comes last
pub others-push : (places : List Place) (noted : List ℕ) (others least : ℕ) (new : Place) → least ≤ others → least ≤ new.position
    → OthersFrom (length places) noted others places → OthersFrom (length places + 1) noted least (places ++ new ∷ [])
others-push places noted others least new fewer below known =
    left_from (places ++ new ∷ []) noted (length places) others least fewer
    (λ i inside none p gets. known i inside none p (sym (slice_get-append_left places (new ∷ []) i inside) ∙ gets))
    (λ p gets. let is : new ≡ p = same_Some new p (sym (last_is places new) ∙ gets) in omega (arith, below, ap (λ (p : Place). p.position) is))
