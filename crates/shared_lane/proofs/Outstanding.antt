-- Tickets that stand name emissions that were accepted.
use Rattle.std.proofs.Common.{◌≡◌, ◌≢◌, ◌<◌, ℕ, zero, suc, ◌+◌, ◌-◌, nat_le, if◌then◌else◌, Bool, true, false, Option, None, Some, List, [], ◌∷◌, ◌++◌, length, map, take, drop, slice_get, refl, sym, ap, ◌∙◌, subst, arith}
use mathlib.Core.Option.{some}
use lib.ListN.{get_elem?}
use Rattle.std.proofs.lemmas.Bool.{le-leb, leb-true}
use Rattle.std.proofs.lemmas.List.{map-append, length-map}
use Rattle.std.proofs.lemmas.Option.{slice_get_within, none-some}
use Rattle.circular_buffer.proofs.Places.{slice_get-append_left, slice_get-last}
use Rattle.shared_lane.specs.Law.{Entry}
use Rattle.shared_lane.specs.declared.tickets.Standing.{Standing}
use Rattle.shared_lane.specs.Polls.{IsFirst}
use Rattle.shared_lane.specs.Caches.{emitter_of, emitter_at, AreAccepted}

abbrev first_of : {X : Type 0} → X → List X → X
first_of d [] = d
first_of d (x ∷ xs) = x

heads : {X : Type 0} (x y : X) (xs ys : List X) → x ∷ xs ≡ y ∷ ys → x ≡ y
heads x y xs ys same = ap (first_of x) same

tails : {X : Type 0} (x y : X) (xs ys : List X) → x ∷ xs ≡ y ∷ ys → xs ≡ ys
tails x y xs ys same = ap (drop 1) same

still : (f n e : ℕ) (log more : List Entry) → emitter_at f log n ≡ Some e → emitter_at f (log ++ more) n ≡ Some e
still f n e log more is = by_place (nat_le f n) is where
  by_place : (b : Bool) → (if b then slice_get (map emitter_of log) (n - f) else None) ≡ Some e → (if b then slice_get (map emitter_of (log ++ more)) (n - f) else None) ≡ Some e
  by_place true at = ap (λ l. slice_get l (n - f)) (map-append emitter_of log more) ∙ slice_get-append_left (map emitter_of log) (map emitter_of more) (n - f) (slice_get_within (map emitter_of log) (n - f) e at) ∙ at
  by_place false at = absurd (none-some _ at)

-- they name them still when more was accepted
pub stand_on : (f : ℕ) (log more : List Entry) (standing : List Standing) → AreAccepted f log standing → AreAccepted f (log ++ more) standing
stand_on f log more [] are = refl
stand_on f log more (s ∷ ss) are =
    let one = still f s.number s.emitter log more (heads _ _ _ _ are) in
    ap (λ o. o ∷ map (λ (z : Standing). emitter_at f (log ++ more) z.number) ss) one ∙ ap (λ l. Some s.emitter ∷ l) (stand_on f log more ss (tails _ _ _ _ are))

no_tail : {X : Type 0} (i : ℕ) → take {A = X} i [] ++ drop {A = X} (suc i) [] ≡ []
no_tail zero = refl
no_tail (suc i) = refl

-- one fewer
pub stand_without : (f : ℕ) (log : List Entry) (standing : List Standing) (i : ℕ) → AreAccepted f log standing → AreAccepted f log (take i standing ++ drop (suc i) standing)
stand_without f log [] i are = ap (map (λ (z : Standing). emitter_at f log z.number)) (no_tail i) ∙ sym (ap (map (λ (z : Standing). Some z.emitter)) (no_tail i))
stand_without f log (x ∷ xs) zero are = tails _ _ _ _ are
stand_without f log (x ∷ xs) (suc i) are =
    ap (λ o. o ∷ map (λ (z : Standing). emitter_at f log z.number) (take i xs ++ drop (suc i) xs)) (heads _ _ _ _ are) ∙ ap (λ l. Some x.emitter ∷ l) (stand_without f log xs i (tails _ _ _ _ are))

-- the emission that was accepted just now
pub just_accepted : (f n e w : ℕ) (log : List Entry) → n ≡ f + length log → emitter_at f (log ++ (e, w) ∷ []) n ≡ Some e
just_accepted f n e w log is =
    let low : nat_le f n ≡ true = le-leb f n (omega arith) in let count : length (map emitter_of log) ≡ length log = length-map log emitter_of in let here : n - f ≡ length (map emitter_of log) = omega arith in
    ap (λ (b : Bool). if b then slice_get (map emitter_of (log ++ (e, w) ∷ [])) (n - f) else None) low ∙ (ap (λ l. slice_get l (n - f)) (map-append emitter_of log ((e, w) ∷ [])) ∙ slice_get-last (map emitter_of log) e (n - f) here)

abbrev or_else : {X : Type 0} → X → Option X → X
or_else d None = d
or_else d (Some x) = x

pub inside_some : {X : Type 0} (d x y : X) → Some x ≡ Some y → x ≡ y
inside_some d x y same = ap (or_else d) same

-- so was the emission whose ticket stands there
pub stand_at : (f : ℕ) (log : List Entry) (standing : List Standing) (i : ℕ) (s : Standing) → AreAccepted f log standing → slice_get standing i ≡ Some s → emitter_at f log s.number ≡ Some s.emitter
stand_at f log [] i s are at = absurd (none-some s at)
stand_at f log (x ∷ xs) zero s are at = subst (λ (z : Standing). emitter_at f log z.number ≡ Some z.emitter) (inside_some x x s at) (heads _ _ _ _ are)
stand_at f log (x ∷ xs) (suc i) s are at = stand_at f log xs i s (tails _ _ _ _ are) at

word_at : (log : List Entry) (i e : ℕ) → slice_get (map emitter_of log) i ≡ Some e → (w : ℕ) × (get_elem? log i ≡ some (e, w))
word_at [] i e at = absurd (none-some e at)
word_at (x ∷ xs) zero e at = (x.1, ap (λ (z : ℕ). some (z, x.1)) (inside_some x.0 x.0 e at))
word_at (x ∷ xs) (suc i) e at = word_at xs i e at

pub accepted_at : (f n e : ℕ) (log : List Entry) → emitter_at f log n ≡ Some e → (i : ℕ) × (w : ℕ) × (n ≡ f + i) × (get_elem? log i ≡ some (e, w))
accepted_at f n e log is = by_place (nat_le f n) refl is where
  by_place : (b : Bool) → nat_le f n ≡ b → (if b then slice_get (map emitter_of log) (n - f) else None) ≡ Some e → (i : ℕ) × (w : ℕ) × (n ≡ f + i) × (get_elem? log i ≡ some (e, w))
  by_place true low at = let word = word_at log (n - f) e at in let above = leb-true f n low in (n - f, word.0, (omega arith), word.1)
  by_place false low at = absurd (none-some e at)

-- the first with a ticket is one alone
one_first : (l : List Standing) (ticket i j : ℕ) (s z : Standing) → slice_get l i ≡ Some s → s.ticket ≡ ticket → ((k : ℕ) (x : Standing) → k < i → slice_get l k ≡ Some x → x.ticket ≢ ticket)
    → slice_get l j ≡ Some z → z.ticket ≡ ticket → ((k : ℕ) (x : Standing) → k < j → slice_get l k ≡ Some x → x.ticket ≢ ticket) → s ≡ z
one_first (x ∷ xs) ticket zero zero s z a sa fa b zb fb = inside_some x s z (sym a ∙ b)
one_first [] ticket zero j s z a sa fa b zb fb = absurd (none-some s a)
one_first [] ticket (suc i) j s z a sa fa b zb fb = absurd (none-some s a)
one_first (x ∷ xs) ticket zero (suc j) s z a sa fa b zb fb = absurd (fb zero s (omega arith) a sa)
one_first (x ∷ xs) ticket (suc i) zero s z a sa fa b zb fb = absurd (fa zero z (omega arith) b zb)
one_first (x ∷ xs) ticket (suc i) (suc j) s z a sa fa b zb fb = one_first xs ticket i j s z a sa (λ k y h. fa (suc k) y (omega arith)) b zb (λ k y h. fb (suc k) y (omega arith))

pub one_with : (l : List Standing) (ticket i j : ℕ) (s z : Standing) → slice_get l i ≡ Some s → s.ticket ≡ ticket → IsFirst l ticket i → slice_get l j ≡ Some z → z.ticket ≡ ticket → IsFirst l ticket j → s ≡ z
unfolding IsFirst
one_with l ticket i j s z a sa fa b zb fb = one_first l ticket i j s z a sa fa b zb fb
