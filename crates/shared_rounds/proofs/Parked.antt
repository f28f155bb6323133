-- Which tickets are listed, where emissions are parked and are woken.
use Rattle.std.proofs.Common.{◌≡◌, ◌≢◌, ◌⊎◌, ◌≤◌, ℕ, zero, suc, Bool, true, false, List, [], ◌∷◌, map, Option, Some, None, refl, sym, ◌∙◌, ap, subst, inl, inr, ⊎_elim, cond, arith, IsPermutation, Contains, Ordering, Less, Equal, Greater}
use Rattle.std.specs.BinaryHeap.{IsUpperBound}
use Rattle.std.specs.List.{filter}
use Rattle.std.specs.Ordering.{is_lt, nat_cmp, ordering_then}
use Rattle.std.proofs.lemmas.Bool.{both_ways}
use Rattle.std.proofs.lemmas.List.Elements.{All-from_recursion, All-contains, All-head, All-map, All-weaker, Contains-append_left, Contains-append_right, Contains-append_cases}
use Rattle.std.proofs.lemmas.List.Sorted.{Contains-permutation, IsPermutation-map, le_from_greatest}
use Rattle.std.proofs.lemmas.Option.{none-some, same_Some}
use Rattle.slab.specs.Slab.{Slab, get}
use Rattle.flow_terms.specs.declared.ids.Ticket.{Ticket}
use Rattle.shared_lane.specs.Ordering.{IsBefore}
use Rattle.shared_rounds.specs.declared.wait_list.Sleeper.{Sleeper}
use Rattle.shared_rounds.specs.Sleeping.{SleepsAt, OnlyThese, StayBut, AllBut, SleepsOn, AreListed, NoneBefore}
use Rattle.shared_rounds.proofs.Rises.{same_key}

-- ---- a list with one more, or without one

here : {X : Type 0} (x : X) (xs : List X) → Contains (x ∷ xs) x
here x xs = Contains-append_left (x ∷ []) xs x (zero, omega arith, refl)

more : {X : Type 0} (x y : X) (xs : List X) → Contains xs y → Contains (x ∷ xs) y
more x y xs found = Contains-append_right (x ∷ []) xs y found

alone : {X : Type 0} (x y : X) → Contains (x ∷ []) y → x ≡ y
alone x y (zero, inside, is) = is
alone x y (suc k, inside, is) = absurd (omega (arith, inside))

other : {X : Type 0} (x y : X) (xs : List X) → Contains (x ∷ xs) y → (x ≡ y → ⊥) → Contains xs y
other x y xs found differs = ⊎_elim (λ one. absurd (differs (alone x y one))) (λ rest. rest) (Contains-append_cases (x ∷ []) xs y found)

-- ---- one is parked

pub parked : (lain listed : List (ℕ × ℕ)) (old new : Slab Sleeper) (wait_key : Option ℕ) (number key : ℕ) → AreListed lain old → SleepsAt new wait_key number → StayBut wait_key old new
    → wait_key ≡ Some key → IsPermutation ((number, key) ∷ lain) listed → AreListed listed new
parked lain listed old new wait_key number key were lies others is moved at sleeper gets =
    Contains-permutation ((number, key) ∷ lain) listed (sleeper.number, at) moved (
    ⊎_elim
    (λ own. let same = same_Some _ _ (sym is ∙ own) in let still = same_Some _ _ (sym lies.2 ∙ own) in
    let number_is : sleeper.number ≡ number = ap (λ s. s.number) (same_Some sleeper lies.1 (sym gets ∙ ap (get new) (sym still) ∙ lies.3)) ∙ lies.4 in
    subst (λ n. Contains ((number, key) ∷ lain) (n, at)) (sym number_is) (subst (λ k. Contains ((number, key) ∷ lain) (number, k)) same (here (number, key) lain)))
    (λ differs. more (number, key) (sleeper.number, at) lain (were at sleeper (sym (others at differs) ∙ gets)))
    (same_key wait_key at))

-- ---- some are woken

first_not_lt : (a b : Ordering) → is_lt (ordering_then a b) ≡ false → is_lt a ≡ false
first_not_lt Less b e = e
first_not_lt Equal b e = refl
first_not_lt Greater b e = e

-- the first numbers of pairs in order are in order
module _ (m n : ℕ) where
  no_lower : (rest : Ordering) → is_lt (ordering_then (nat_cmp m n) rest) ≡ false → n ≤ m
  no_lower rest not = All-head (λ z. z ≤ m) n [] (le_from_greatest m (n ∷ []) (first_not_lt (nat_cmp m n) rest not, tt))

-- the top of a heap has the lowest of its tickets
pub lowest : {X : Type 0} (pair : X → ℕ × ℕ) (top : X) (heap : List X)
    → IsUpperBound (λ x y. ordering_then (nat_cmp (pair y).0 (pair x).0) (nat_cmp (pair y).1 (pair x).1)) top heap → (ticket key : ℕ) → Contains (map pair heap) (ticket, key) → (pair top).0 ≤ ticket
lowest pair top heap bound ticket key found =
    All-contains (λ (x : ℕ × ℕ). (pair top).0 ≤ x.0) (map pair heap) (ticket, key) (
    All-map (λ (x : ℕ × ℕ). (pair top).0 ≤ x.0) pair heap (
    All-weaker (λ y. is_lt (ordering_then (nat_cmp (pair y).0 (pair top).0) (nat_cmp (pair y).1 (pair top).1)) ≡ false) (λ y. (pair top).0 ≤ (pair y).0)
    (λ y below. no_lower (pair y).0 (pair top).0 (nat_cmp (pair y).1 (pair top).1) below) heap
    (All-from_recursion (λ y. is_lt (ordering_then (nat_cmp (pair y).0 (pair top).0) (nat_cmp (pair y).1 (pair top).1)) ≡ false) heap bound)))
    found

-- where the lowest ticket isn't before another one, none is
pub none_before : (first : Option Ticket) (top : ℕ) (lain : List (ℕ × ℕ)) → ((ticket key : ℕ) → Contains lain (ticket, key) → top ≤ ticket) → (IsBefore top first → ⊥) → NoneBefore first lain
none_before None top lain low not ticket key found before = not tt
none_before (Some first) top lain low not ticket key found before = not (omega (arith, low ticket key found, before))

-- who was woken is listed no more
pub woken_out : (lain rest : List (ℕ × ℕ)) (number wait_key : ℕ) (old new : Slab Sleeper) → AreListed lain old → IsPermutation lain ((number, wait_key) ∷ rest) → AllBut number wait_key old new → AreListed rest new
woken_out lain rest number wait_key old new were moved all key sleeper gets =
    let was = (all key sleeper).0 gets in
    other (number, wait_key) (sleeper.number, key) rest (Contains-permutation lain ((number, wait_key) ∷ rest) (sleeper.number, key) moved (were key sleeper was.0))
    (λ same. was.1 (sym (ap (λ (x : ℕ × ℕ). x.1) same)) (sym (ap (λ (x : ℕ × ℕ). x.0) same)))

-- those that aren't before a ticket sleep on
pub record AfterWaking (first : Option Ticket) (old new : Slab Sleeper) : Type 0 where
  pub slept : (key : ℕ) (sleeper : Sleeper) → get new key ≡ Some sleeper → get old key ≡ Some sleeper
  pub sleeps : (key : ℕ) (sleeper : Sleeper) → get old key ≡ Some sleeper → (IsBefore sleeper.number first → ⊥) → get new key ≡ Some sleeper

pub one_woken : (first : Option Ticket) (number wait_key : ℕ) (old mid new : Slab Sleeper) → AfterWaking first old mid → IsBefore number first → AllBut number wait_key mid new → AfterWaking first old new
one_woken first number wait_key old mid new were before all = record {
  slept = λ key sleeper gets. were.slept key sleeper ((all key sleeper).0 gets).0;
  sleeps = λ key sleeper gets after. (all key sleeper).1 (were.sleeps key sleeper gets after, λ here_lies is. after (subst (λ n. IsBefore n first) (sym is) before));
}

pub all_woken : (first : Option Ticket) (lain : List (ℕ × ℕ)) (old new : Slab Sleeper) → AreListed lain new → NoneBefore first lain → AfterWaking first old new → OnlyThese (λ ticket. IsBefore ticket first → ⊥) old new
all_woken first lain old new listed none woke key sleeper = (
  λ now. (woke.slept key sleeper now, none sleeper.number key (listed key sleeper now)),
  λ was. woke.sleeps key sleeper was.0 was.1,
)

-- ---- one is gone

by_test : (b : Bool) → (b ≡ true) ⊎ (b ≡ false)
by_test true = inl refl
by_test false = inr refl

kept_by : (test : ℕ × ℕ → Bool) {X : Type 0} (pair : X → ℕ × ℕ) (heap : List X) (x : ℕ × ℕ) → test x ≡ true → Contains (map pair heap) x → Contains (map pair (filter (λ y. test (pair y)) heap)) x
kept_by test pair [] x passes found = found
kept_by test pair (y ∷ ys) x passes found = ⊎_elim
    (λ is. subst (λ l. Contains (map pair l) x) (sym (ap (λ b. cond b (y ∷ filter (λ z. test (pair z)) ys) (filter (λ z. test (pair z)) ys)) is)) (
    ⊎_elim
    (λ one. Contains-append_left (pair y ∷ []) (map pair (filter (λ z. test (pair z)) ys)) x one)
    (λ rest. more (pair y) x _ (kept_by test pair ys x passes rest))
    (Contains-append_cases (pair y ∷ []) (map pair ys) x found)))
    (λ isnt. subst (λ l. Contains (map pair l) x) (sym (ap (λ b. cond b (y ∷ filter (λ z. test (pair z)) ys) (filter (λ z. test (pair z)) ys)) isnt)) (
    kept_by test pair ys x passes (other (pair y) x (map pair ys) found (λ same. both_ways (test (pair y)) isnt (ap test same ∙ passes)))))
    (by_test (test (pair y)))

pub still_there : (test : ℕ × ℕ → Bool) (number : ℕ) → ((x : ℕ × ℕ) → x.0 ≢ number → test x ≡ true) → {X : Type 0} (pair : X → ℕ × ℕ) (heap kept left : List X) (old new : Slab Sleeper)
    → AreListed (map pair heap) old → OnlyThese (λ n. n ≢ number) old new → kept ≡ filter (λ y. test (pair y)) heap → IsPermutation kept left → AreListed (map pair left) new
still_there test number passes pair heap kept left old new were only is moved key sleeper gets =
    let was = (only key sleeper).0 gets in
    Contains-permutation (map pair kept) (map pair left) (sleeper.number, key) (IsPermutation-map pair kept left moved)
    (subst (λ l. Contains (map pair l) (sleeper.number, key)) (sym is) (kept_by test pair heap (sleeper.number, key) (passes (sleeper.number, key) was.1) (were key sleeper was.0)))

-- ---- who sleeps on

pub none_gone : (first : Option Ticket) (old new : Slab Sleeper) → OnlyThese (λ ticket. IsBefore ticket first → ⊥) old new → OnlyThese (SleepsOn first None) old new
none_gone first old new only key sleeper = (
  λ now. let was = (only key sleeper).0 now in (was.0, (was.1, λ is. none-some sleeper.number is)),
  λ was. (only key sleeper).1 (was.0, was.1.0),
)

pub gone_before : (first : Option Ticket) (gone : ℕ) (old new : Slab Sleeper) → IsBefore gone first → OnlyThese (λ ticket. IsBefore ticket first → ⊥) old new → OnlyThese (SleepsOn first (Some gone)) old new
gone_before first gone old new before only key sleeper = (
  λ now. let was = (only key sleeper).0 now in (was.0, (was.1, λ is. was.1 (subst (λ n. IsBefore n first) (same_Some gone sleeper.number is) before))),
  λ was. (only key sleeper).1 (was.0, was.1.0),
)

pub gone_after : (first : Option Ticket) (gone : ℕ) (old mid new : Slab Sleeper) → OnlyThese (λ ticket. IsBefore ticket first → ⊥) old mid → OnlyThese (λ ticket. ticket ≢ gone) mid new → OnlyThese (SleepsOn first (Some gone)) old new
gone_after first gone old mid new only others key sleeper = (
  λ now. let is = (others key sleeper).0 now in let was = (only key sleeper).0 is.0 in (was.0, (was.1, λ same. is.1 (sym (same_Some gone sleeper.number same)))),
  λ was. (others key sleeper).1 ((only key sleeper).1 (was.0, was.1.0), λ same. was.1.1 (ap Some (sym same))),
)
