-- Laws of what a run over two runs gives.
use Rattle.std.specs.Prelude.{◌≡◌, ◌⊎◌, List, [], ◌∷◌, ◌++◌, Option, Some, None, refl}
use Rattle.std.proofs.Common.{sym, ◌∙◌, ap, subst, inl, inr, append_assoc, ⊎_elim}
use Rattle.std.proofs.lemmas.List.{append-nil}
use Rattle.flow_terms.specs.Lists.{some_of}
use Rattle.futures.specs.declared.task.Poll.{Poll}
use Rattle.futures.specs.declared.task.Poll.TheVariants.{Ready, Pending}
use Rattle.cold_flow.specs.declared.cause.Cause.{Cause}
use Rattle.cold_flow.specs.declared.event.Event.{Event}
use Rattle.cold_flow.specs.declared.event.Event.TheVariants.{Value, End}
use Rattle.cold_flow.specs.Trace.{Trace, ◌⊑◌, so_far, ended_by}
use Rattle.cold_flow.specs.Poll.{Traces, Narrows}
use Rattle.cold_flow.specs.Laws.{below-end}
use Rattle.cold_flow.specs.Passing.{given_by}
use Rattle.hot_sources.specs.Combining.{firsts, seconds}
use Rattle.hot_sources.specs.Both.{joined, MayJoin, PolledBoth}
use Rattle.hot_sources.specs.SoFar.{GaveSoFar}
use Rattle.hot_sources.specs.SoFar.GaveSoFar.{none_yet, polled_on}

module _ {A B : Type 0} where
  firsts_all : (xs ys : List (Option A × Option B)) → firsts (xs ++ ys) ≡ firsts xs ++ firsts ys
  firsts_all [] ys = refl
  firsts_all (x ∷ xs) ys = ap (λ (l : List A). some_of x.0 ++ l) (firsts_all xs ys) ∙ sym (append_assoc (some_of x.0) (firsts xs) (firsts ys))

  seconds_all : (xs ys : List (Option A × Option B)) → seconds (xs ++ ys) ≡ seconds xs ++ seconds ys
  seconds_all [] ys = refl
  seconds_all (x ∷ xs) ys = ap (λ (l : List B). some_of x.1 ++ l) (seconds_all xs ys) ∙ sym (append_assoc (some_of x.1) (seconds xs) (seconds ys))

module _ {A B E : Type 0} where
  -- what one poll gave of each side
  abbrev GivesEach : Poll (Event A E) → Poll (Event B E) → Poll (Event (Option A × Option B) E) → Type 0
  GivesEach a b answer = (firsts (given_by answer) ≡ given_by a) × (seconds (given_by answer) ≡ given_by b)

  each_given : (a : Poll (Event A E)) (b : Poll (Event B E)) → GivesEach a b (joined a b)
  each_given (Ready (Value x)) (Ready (Value y)) = (refl, refl)
  each_given (Ready (Value x)) (Ready (End j)) = (refl, refl)
  each_given (Ready (Value x)) Pending = (refl, refl)
  each_given (Ready (End k)) (Ready (Value y)) = (refl, refl)
  each_given (Ready (End k)) (Ready (End j)) = (refl, refl)
  each_given (Ready (End k)) Pending = (refl, refl)
  each_given Pending (Ready (Value y)) = (refl, refl)
  each_given Pending (Ready (End j)) = (refl, refl)
  each_given Pending Pending = (refl, refl)

  joined_gives : (a : Poll (Event A E)) (b : Poll (Event B E)) (answer : Poll (Event (Option A × Option B) E)) → answer ≡ joined a b → GivesEach a b answer
  joined_gives a b answer is = subst (λ (p : Poll (Event (Option A × Option B) E)). GivesEach a b p) (sym is) (each_given a b)

-- what polls of a run over two gave of each side so far is what polls of that side gave: none is left out
module _ {S L R A B E : Type 0} (left : L → Poll (Event A E) → L → Type 0) (right : R → Poll (Event B E) → R → Type 0)
    (polled : S → Poll (Event (Option A × Option B) E) → S → Type 0) (ended : S → Option (Cause E)) (at_left : S → L) (at_right : S → R)
    (tells : (s : S) (answer : Poll (Event (Option A × Option B) E)) (t : S) → polled s answer t
    → PolledBoth left right (ended s) (at_left s) (at_right s) answer (at_left t) (at_right t)) where
  -- one poll more
  each_on : (o : Option (Cause E)) (l l2 l3 : L) (r r2 r3 : R) (xs ys : List (Option A × Option B)) (answer : Poll (Event (Option A × Option B) E))
      → GaveSoFar left l (firsts xs) l2 → GaveSoFar right r (seconds xs) r2 → PolledBoth left right o l2 r2 answer l3 r3
      → ys ≡ xs ++ given_by answer → GaveSoFar left l (firsts ys) l3 × GaveSoFar right r (seconds ys) r3
  each_on None l l2 l3 r r2 r3 xs ys answer of_left of_right (a, b, polled_left, polled_right, joins) is =
      let came = joined_gives a b answer joins in (
        polled_on a of_left polled_left (ap firsts is ∙ firsts_all xs (given_by answer) ∙ ap (λ (l : List A). firsts xs ++ l) came.0),
        polled_on b of_right polled_right (ap seconds is ∙ seconds_all xs (given_by answer) ∙ ap (λ (l : List B). seconds xs ++ l) came.1),
      )
  each_on (Some k) l l2 l3 r r2 r3 xs ys answer of_left of_right (ends, same_left, same_right) is =
      let all = is ∙ ap (λ (p : Poll (Event (Option A × Option B) E)). xs ++ given_by p) ends ∙ append-nil xs in (
        subst (λ (q : List A). GaveSoFar left l q l3) (ap firsts (sym all))
            (subst (λ (q : L). GaveSoFar left l (firsts xs) q) (sym same_left) of_left),
        subst (λ (q : List B). GaveSoFar right r q r3) (ap seconds (sym all))
            (subst (λ (q : R). GaveSoFar right r (seconds xs) q) (sym same_right) of_right),
      )

  given_of_each : (s t : S) (xs : List (Option A × Option B)) → GaveSoFar polled s xs t
      → GaveSoFar left (at_left s) (firsts xs) (at_left t) × GaveSoFar right (at_right s) (seconds xs) (at_right t)
  given_of_each s t xs none_yet = (none_yet, none_yet)
  given_of_each s t ys (polled_on {s = m} {xs = xs} answer before poll is) =
      let was = given_of_each s m xs before in
      each_on (ended m) _ _ _ _ _ _ xs ys answer was.0 was.1 (tells m answer t poll) is

-- the same, where the polls say which run it is
pub given_by_each : {S L R A B E : Type 0} {left : L → Poll (Event A E) → L → Type 0} {right : R → Poll (Event B E) → R → Type 0}
    {polled : S → Poll (Event (Option A × Option B) E) → S → Type 0} {s t : S} {xs : List (Option A × Option B)} → GaveSoFar polled s xs t
    → (ended : S → Option (Cause E)) (at_left : S → L) (at_right : S → R)
    → ((r : S) (answer : Poll (Event (Option A × Option B) E)) (q : S) → polled r answer q
    → PolledBoth left right (ended r) (at_left r) (at_right r) answer (at_left q) (at_right q))
    → GaveSoFar left (at_left s) (firsts xs) (at_left t) × GaveSoFar right (at_right s) (seconds xs) (at_right t)
given_by_each {left = left} {right = right} {polled = polled} {s = s} {t = t} {xs = xs} gave ended at_left at_right tells =
    given_of_each left right polled ended at_left at_right tells s t xs gave

module _ {A B E : Type 0} where
  pub join_begins : (left : Traces A E) (right : Traces B E) → left (so_far []) → right (so_far []) → MayJoin left right (so_far [])
  join_begins left right l r = record { left_end = None; right_end = None; of_left = l; of_right = r; ends = inl refl }

-- one poll of a side: what it may give still, it could give behind what the poll gave
side_narrows : {A E : Type 0} (old new : Traces A E) (a : Poll (Event A E)) → Narrows old a new → old (so_far [])
    → ((k : Cause E) → a ≡ Ready (End k) → (t : Trace A E) → new t → t ⊑ ended_by [] k)
    → (xs : List A) (e : Option (Cause E)) → new (xs, e) → old (given_by a ++ xs, e)
side_narrows old new (Ready (Value x)) narrows begins over xs e h = narrows (xs, e) h
side_narrows old new Pending narrows begins over xs e h = narrows (xs, e) h
side_narrows old new (Ready (End k)) narrows begins over xs e h =
    ⊎_elim
    (λ is. subst (λ (t : Trace _ _). old t) (sym is) narrows)
    (λ is. subst (λ (t : Trace _ _). old t) (sym is) begins)
    (below-end (xs, e) k (over k refl (xs, e) h))

module _ {A B E : Type 0} where
  -- what both may give behind a value
  joins_on : (left left2 : Traces A E) (right right2 : Traces B E) (new : Option A × Option B)
      → ((xs : List A) (e : Option (Cause E)) → left2 (xs, e) → left (some_of new.0 ++ xs, e))
      → ((ys : List B) (e : Option (Cause E)) → right2 (ys, e) → right (some_of new.1 ++ ys, e))
      → Narrows (MayJoin left right) (Ready (Value new)) (MayJoin left2 right2)
  joins_on left left2 right right2 new l r t h = record {
    left_end = h.left_end;
    right_end = h.right_end;
    of_left = l (firsts t.0) h.left_end h.of_left;
    of_right = r (seconds t.0) h.right_end h.of_right;
    ends = h.ends;
  }

  ends_left : (left left2 : Traces A E) (right right2 : Traces B E) (k : Cause E) → left (ended_by [] k) → right (so_far [])
      → Narrows (MayJoin left right) (Ready (End k)) (MayJoin left2 right2)
  ends_left left left2 right right2 k l r = record { left_end = Some k; right_end = None; of_left = l; of_right = r; ends = inr (inl refl) }

  ends_right : (left left2 : Traces A E) (right right2 : Traces B E) (k : Cause E) → left (so_far []) → right (ended_by [] k)
      → Narrows (MayJoin left right) (Ready (End k)) (MayJoin left2 right2)
  ends_right left left2 right right2 k l r = record { left_end = None; right_end = Some k; of_left = l; of_right = r; ends = inr (inr refl) }

  waits_on : (left left2 : Traces A E) (right right2 : Traces B E)
      → ((xs : List A) (e : Option (Cause E)) → left2 (xs, e) → left (xs, e))
      → ((ys : List B) (e : Option (Cause E)) → right2 (ys, e) → right (ys, e))
      → Narrows (MayJoin left right) Pending (MayJoin left2 right2)
  waits_on left left2 right right2 l r t h = record {
    left_end = h.left_end;
    right_end = h.right_end;
    of_left = l (firsts t.0) h.left_end h.of_left;
    of_right = r (seconds t.0) h.right_end h.of_right;
    ends = h.ends;
  }

  joins : (left left2 : Traces A E) (right right2 : Traces B E) (a : Poll (Event A E)) (b : Poll (Event B E))
      → Narrows left a left2 → left (so_far []) → Narrows right b right2 → right (so_far [])
      → ((xs : List A) (e : Option (Cause E)) → left2 (xs, e) → left (given_by a ++ xs, e))
      → ((ys : List B) (e : Option (Cause E)) → right2 (ys, e) → right (given_by b ++ ys, e))
      → Narrows (MayJoin left right) (joined a b) (MayJoin left2 right2)
  joins left left2 right right2 (Ready (Value x)) (Ready (Value y)) ln lb rn rb l r = joins_on left left2 right right2 (Some x, Some y) l r
  joins left left2 right right2 (Ready (Value x)) (Ready (End j)) ln lb rn rb l r = joins_on left left2 right right2 (Some x, None) l r
  joins left left2 right right2 (Ready (Value x)) Pending ln lb rn rb l r = joins_on left left2 right right2 (Some x, None) l r
  joins left left2 right right2 (Ready (End k)) (Ready (Value y)) ln lb rn rb l r = joins_on left left2 right right2 (None, Some y) l r
  joins left left2 right right2 (Ready (End k)) (Ready (End j)) ln lb rn rb l r = ends_left left left2 right right2 k ln rb
  joins left left2 right right2 (Ready (End k)) Pending ln lb rn rb l r = ends_left left left2 right right2 k ln rb
  joins left left2 right right2 Pending (Ready (Value y)) ln lb rn rb l r = joins_on left left2 right right2 (None, Some y) l r
  joins left left2 right right2 Pending (Ready (End j)) ln lb rn rb l r = ends_right left left2 right right2 j lb rn
  joins left left2 right right2 Pending Pending ln lb rn rb l r = waits_on left left2 right right2 l r

  -- one poll of each
  pub join_narrows : (left left2 : Traces A E) (right right2 : Traces B E) (a : Poll (Event A E)) (b : Poll (Event B E))
      → Narrows left a left2 → left (so_far []) → ((k : Cause E) → a ≡ Ready (End k) → (t : Trace A E) → left2 t → t ⊑ ended_by [] k)
      → Narrows right b right2 → right (so_far []) → ((k : Cause E) → b ≡ Ready (End k) → (t : Trace B E) → right2 t → t ⊑ ended_by [] k)
      → Narrows (MayJoin left right) (joined a b) (MayJoin left2 right2)
  join_narrows left left2 right right2 a b ln lb lo rn rb ro = joins left left2 right right2 a b ln lb rn rb (side_narrows left left2 a ln lb lo) (side_narrows right right2 b rn rb ro)
