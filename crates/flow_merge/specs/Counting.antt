-- How many polls are left of several runs.
use Rattle.std.specs.Prelude.{◌≡◌, ℕ, ◌+◌, ◌*◌, ◌<◌, ◌≤◌, Bool, true, false, cond, T, Option, Some, None, refl}
use Rattle.std.proofs.Common.{arith}
use Rattle.std.proofs.Math.Nat.{mul-le-mul_left}
use Rattle.std.specs.Iterator.{Count, IsFinite, size, at_most, count_add, count_map, count_unless}
use Rattle.cold_flow.specs.declared.cause.Cause.{Cause}
use Rattle.cold_flow.specs.Poll.{IsWithinPolls}
use Rattle.cold_flow.specs.Polled.{Rests}

-- the polls that are left, and one for the end
abbrev pub with_end : Count → Count
with_end c = count_map (λ n. n + 1) c

-- fewer polls are left
abbrev pub IsFewer : Count → Count → Type 0
IsFewer old new = IsFinite old → IsFinite new × (size new < size old)

-- a run that goes on has given no cause
pub unended : {A : Type 0} (o : Option A) (k : A) → o ≡ None → o ≡ Some k → ⊥
unended o k going gave = cc

-- and its sources may have been asked
pub going_rests : {E S : Type 0} (o : Option (Cause E)) (old new : S) → o ≡ None → Rests o old new
going_rests o old new going k gave = absurd (unended o k going gave)

both-true : (a b : Bool) → T a → T b → T (cond a b false)
both-true true b h g = g
both-true false b h g = h

unless-true : (done a : Bool) → T a → T (cond done true a)
unless-true true a h = tt
unless-true false a h = h

pub both-finite : (a b : Count) → IsFinite a → IsFinite b → IsFinite (count_add a b)
both-finite a b h g = both-true a.bounded b.bounded h g

pub unless-finite : (done : Bool) (c : Count) → IsFinite c → IsFinite (count_unless done (with_end c))
unless-finite done c h = unless-true done c.bounded h

-- after one more question that brings the end nearer
pub after_question : (old new : Count) (n most : ℕ) → IsFinite old × (size old + n ≤ most) → IsFewer old new
    → IsFinite new × (size new + (n + 1) ≤ most)
after_question old new n most was now = let h = now was.0 in (h.0, omega arith)

-- one that does not count
pub after_wait : (old new : Count) (n most : ℕ) → IsFinite old × (size old + n ≤ most) → IsFewer old new
    → IsFinite new × (size new + n ≤ most)
after_wait old new n most was now = let h = now was.0 in (h.0, omega arith)

-- one that a poll answers
pub last_question : (old new : Count) (n most : ℕ) → IsFinite old × (size old + n ≤ most) → IsFewer old new
    → IsFinite new × (size new < most)
last_question old new n most was now = let h = now was.0 in (h.0, omega arith)

-- as many questions as a poll asks
pub no_more_questions : (now : Count) (n most : ℕ) → IsFinite now × (size now + n ≤ most) → 64 ≤ n → IsFinite now × (size now < most)
no_more_questions now n most was asked = (was.0, omega arith)

pub enough_questions : (now : Count) (n most : ℕ) → IsFinite now × (size now + n ≤ most) → 64 ≤ n → IsFinite now × (size now + 64 ≤ most)
enough_questions now n most was asked = (was.0, omega arith)

-- ---- runs that start inner runs

-- where most is a number, no more polls are left than that
abbrev pub IsBoundedBy : Count → Count → Type 0
IsBoundedBy most c = most.bounded ≡ true → (c.bounded ≡ true) × (size c ≤ size most)

-- the polls of an outer run and of the inner runs that it starts, each with its end, where most bounds these
abbrev pub rounds : Count → Count → Count
rounds outer most = record { bounded = cond outer.bounded most.bounded false; bound = size outer * (size most + 2) }

-- the polls of the run that stands, if any, and its end
abbrev pub standing_polls : {R : Type 0} → (R → Count) → Option R → Count
standing_polls polls None = at_most 0
standing_polls polls (Some r) = with_end (polls r)

true-is : (b : Bool) → T b → b ≡ true
true-is true h = refl
true-is false h = elim h [ ]

is-true : (b : Bool) → b ≡ true → T b
is-true true h = tt
is-true false h = absurd (cc)

pub bounded_by : (most c : Count) → IsWithinPolls most c → IsBoundedBy most c
bounded_by most c h e = let w = h (is-true most.bounded e) in (true-is c.bounded w.0, w.1)

both-first : (a b : Bool) → T (cond a b false) → T a
both-first true b h = tt
both-first false b h = elim h [ ]

both-second : (a b : Bool) → T (cond a b false) → T b
both-second true b h = h
both-second false b h = elim h [ ]

more-rounds : (less more most rest : ℕ) → less < more → rest < most + 2 → less * (most + 2) + rest < more * (most + 2) + 0
more-rounds less more most rest h k =
    let product : (most + 2) * (less + 1) ≤ (most + 2) * more = mul-le-mul_left (most + 2) (omega arith) in omega arith

fewer-rounds : (less more most : ℕ) → less ≤ more → less * (most + 2) + 0 ≤ more * (most + 2) + 0
fewer-rounds less more most h =
    let product : (most + 2) * less ≤ (most + 2) * more = mul-le-mul_left (most + 2) h in omega arith

-- a value of the outer that starts an inner run
pub start_approaches : (outer left most of_flow of_run : Count) → IsFewer outer left → IsBoundedBy most of_flow
    → IsWithinPolls of_flow of_run → IsFinite (count_add (rounds outer most) (at_most 0))
    → IsFinite (count_add (rounds left most) (with_end of_run))
    × (size (count_add (rounds left most) (with_end of_run)) < size (count_add (rounds outer most) (at_most 0)))
start_approaches outer left most of_flow of_run fewer bounded within h =
    let whole : T (cond outer.bounded most.bounded false) = both-first (cond outer.bounded most.bounded false) true h in
    let known : T most.bounded = both-second outer.bounded most.bounded whole in
    let now = fewer (both-first outer.bounded most.bounded whole) in
    let flow = bounded (true-is most.bounded known) in
    let run = within (is-true of_flow.bounded flow.0) in (
      both-true (cond left.bounded most.bounded false) of_run.bounded (both-true left.bounded most.bounded now.0 known) run.0,
      more-rounds (size left) (size outer) (size most) (size of_run + 1) now.1 (omega arith),
    )

-- a pending answer of the outer
pub wait_approaches : (outer left most : Count) → IsFewer outer left → IsFinite (count_add (rounds outer most) (at_most 0))
    → IsFinite (count_add (rounds left most) (at_most 0))
    × (size (count_add (rounds left most) (at_most 0)) < size (count_add (rounds outer most) (at_most 0)))
wait_approaches outer left most fewer h =
    let whole : T (cond outer.bounded most.bounded false) = both-first (cond outer.bounded most.bounded false) true h in
    let known : T most.bounded = both-second outer.bounded most.bounded whole in
    let now = fewer (both-first outer.bounded most.bounded whole) in (
      both-true (cond left.bounded most.bounded false) true (both-true left.bounded most.bounded now.0 known) tt,
      more-rounds (size left) (size outer) (size most) 0 now.1 (omega arith),
    )

-- an answer of the inner run that stands
pub inner_approaches : (rest old new : Count) → IsFewer old new → IsFewer (count_add rest (with_end old)) (count_add rest (with_end new))
inner_approaches rest old new fewer h =
    let now = fewer (both-second rest.bounded old.bounded h) in
    (both-true rest.bounded new.bounded (both-first rest.bounded old.bounded h) now.0, omega arith)

pub rounds_within : (outer left most : Count) → IsWithinPolls outer left
    → IsWithinPolls (count_add (rounds outer most) (at_most 0)) (count_add (rounds left most) (at_most 0))
rounds_within outer left most within h =
    let whole : T (cond outer.bounded most.bounded false) = both-first (cond outer.bounded most.bounded false) true h in
    let known : T most.bounded = both-second outer.bounded most.bounded whole in
    let now = within (both-first outer.bounded most.bounded whole) in (
      both-true (cond left.bounded most.bounded false) true (both-true left.bounded most.bounded now.0 known) tt,
      fewer-rounds (size left) (size outer) (size most) now.1,
    )

pub rounds_finite : {R : Type 0} (outer most : Count) (polls : R → Count) → IsFinite outer → IsFinite most
    → ((r : R) → IsFinite (polls r)) → (standing : Option R)
    → IsFinite (count_add (rounds outer most) (standing_polls polls standing))
rounds_finite outer most polls h k each None = both-true (cond outer.bounded most.bounded false) true (both-true outer.bounded most.bounded h k) tt
rounds_finite outer most polls h k each (Some r) =
    both-true (cond outer.bounded most.bounded false) (polls r).bounded (both-true outer.bounded most.bounded h k) (each r)
