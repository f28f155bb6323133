-- Tickets stay in their order, and are found by it.
use Rattle.std.specs.Prelude.{⊤}
use Rattle.std.proofs.Common.{◌≡◌, ◌≢◌, ◌⊎◌, ◌==◌, ℕ, zero, suc, ◌+◌, ◌<◌, ◌≤◌, Bool, true, false, ltb, ltb-true, ltb-false, lt-ltb, le-ltb, eqb, eq-eqb, ne_eqb, nat_lt, ◌&&◌, ◌||◌, List, [], ◌∷◌, ◌++◌, length, take, drop, Option, Some, None, slice_get, slice_index_or, refl, sym, ap, ◌∙◌, subst, ⊎_elim, inl, inr, arith}
use Rattle.std.proofs.lemmas.Bool.{cases_lt, cases_eq}
use Rattle.std.proofs.lemmas.Option.{get_or_from_slice_get, none-some, same_Some, slice_get_within}
use Rattle.std.specs.List.{list_any}
use Rattle.std.specs.List.Sorted.{IsNonDecreasingBy, IsPartitionPoint}
use Rattle.circular_buffer.proofs.Places.{slice_get-some, slice_get-drop}
use Rattle.flow_terms.specs.declared.ids.Ticket.{Ticket}
use Rattle.shared_core.specs.Rising.{Rises}
use Rattle.shared_lane.specs.declared.tickets.Waiting.{Waiting}
use Rattle.shared_lane.specs.declared.tickets.Standing.{Standing}
use Rattle.shared_lane.specs.Ordering.{IsInOrder, IsOut, IsBefore, IsUnfinishedAt, FirstUnfinished}
use Rattle.shared_lane.specs.Polls.{IsFirst, IsOutFor, NoneStands, stands_below}
use Rattle.shared_lane.specs.Views.{SequencerSeen}

-- ---- one more at the end, one fewer

module _ {X : Type 0} where
  pub last_or_before : (xs : List X) (x y : X) (i : ℕ) → slice_get (xs ++ x ∷ []) i ≡ Some y → (slice_get xs i ≡ Some y) ⊎ ((i ≡ length xs) × (y ≡ x))
  last_or_before [] x y zero at = inr (refl, same_Some y x (sym at))
  last_or_before [] x y (suc i) at = absurd (none-some y at)
  last_or_before (z ∷ zs) x y zero at = inl at
  last_or_before (z ∷ zs) x y (suc i) at = ⊎_elim (λ here. inl here) (λ end. let same = end.0 in inr (omega (arith, same), end.1)) (last_or_before zs x y i at)

  -- where it stood
  abbrev Stood : List X → ℕ → ℕ → X → Type 0
  Stood xs i j y = (k : ℕ) × (slice_get xs k ≡ Some y) × (((j < i) × (k ≡ j)) ⊎ ((i ≤ j) × (k ≡ suc j)))

  pub stood : (xs : List X) (i j : ℕ) (y : X) → slice_get (take i xs ++ drop (suc i) xs) j ≡ Some y → Stood xs i j y
  stood [] zero j y at = absurd (none-some y at)
  stood [] (suc i) j y at = absurd (none-some y at)
  stood (x ∷ xs) zero j y at = (suc j, at, inr (omega arith, refl))
  stood (x ∷ xs) (suc i) zero y at = (zero, at, inl (omega arith, refl))
  stood (x ∷ xs) (suc i) (suc j) y at =
      let before = stood xs i j y at in (
        suc before.0,
        before.1,
        ⊎_elim
            (λ low. let less = low.0 in let is = low.1 in inl (omega (arith, less), omega (arith, is)))
            (λ high. let more = high.0 in let is = high.1 in inr (omega (arith, more), omega (arith, is)))
            before.2,
      )

module _ {X : Type 0} (number : X → ℕ) where
  pub rises_on : (xs : List X) (x : X) → Rises number xs → ((i : ℕ) (y : X) → slice_get xs i ≡ Some y → number y < number x) → Rises number (xs ++ x ∷ [])
  rises_on xs x rises above i j y z before first second =
      ⊎_elim
      (λ (there : slice_get xs j ≡ Some z).
      ⊎_elim
      (λ (here : slice_get xs i ≡ Some y). rises i j y z before here there)
      (λ end. let is = end.0 in let inside = slice_get_within xs j z there in absurd (omega (arith, is, inside, before)))
      (last_or_before xs x y i first))
      (λ last.
      ⊎_elim
      (λ (here : slice_get xs i ≡ Some y). let less = above i y here in let is = ap number last.1 in omega (arith, less, is))
      (λ end. let a = end.0 in let b = last.0 in absurd (omega (arith, a, b, before)))
      (last_or_before xs x y i first))
      (last_or_before xs x z j second)

  pub rises_without : (xs : List X) (at : ℕ) → Rises number xs → Rises number (take at xs ++ drop (suc at) xs)
  rises_without xs at rises i j y z before first second =
      let a = stood xs at i y first in
      let b = stood xs at j z second in
      let over : a.0 < b.0 = ⊎_elim
      (λ low. let p = low.0 in let q = low.1 in ⊎_elim (λ l. let r = l.1 in omega (arith, q, r, before)) (λ h. let r = h.1 in omega (arith, q, r, before)) b.2)
      (λ high. let p = high.0 in let q = high.1 in ⊎_elim (λ l. let r = l.0 in absurd (omega (arith, p, r, before))) (λ h. let r = h.1 in omega (arith, q, r, before)) b.2)
      a.2 in
      rises a.0 b.0 y z over a.1 b.1

  pub rises_after : (xs : List X) → Rises number xs → Rises number (drop 1 xs)
  rises_after [] rises i j y z before first second = absurd (none-some y first)
  rises_after (x ∷ xs) rises i j y z before first second = rises (suc i) (suc j) y z (omega (arith, before)) first second

  -- a list that rises doesn't fall
  pub never_falls : (xs : List X) → Rises number xs → IsNonDecreasingBy number xs
  never_falls xs rises i j d le inside =
      let first = slice_get-some xs i (omega (arith, le, inside)) in
      let second = slice_get-some xs j inside in
      ⊎_elim
      (λ (before : i < j).
      let less = rises i j first.0 second.0 before first.1 second.1 in
      let a = ap number (get_or_from_slice_get xs i first.0 d first.1) in
      let b = ap number (get_or_from_slice_get xs j second.0 d second.1) in
      omega (arith, less, a, b))
      (λ (later : j ≤ i). let same : i ≡ j = omega (arith, le, later) in let is = ap (λ k. number (slice_index_or xs k d)) same in omega (arith, is))
      (cases_lt i j)

  abbrev pub Parts : List X → ℕ → ℕ → Type 0
  Parts xs n at = IsPartitionPoint (λ y. ltb (number y) n ≡ true) (λ y. ltb (number y) n ≡ false) xs at

  module _ (xs : List X) (n at : ℕ) (parts : Parts xs n at) where
    pub below_point : (k : ℕ) (x : X) → slice_get xs k ≡ Some x → k < at → number x < n
    below_point k x gets low =
        let is = ap number (get_or_from_slice_get xs k x x gets) in
        let less = ltb-true _ n (parts.0 k x (omega arith) low) in
        omega (arith, is, less)

    pub from_point : (k : ℕ) (x : X) → slice_get xs k ≡ Some x → at ≤ k → n ≤ number x
    from_point k x gets high =
        let is = ap number (get_or_from_slice_get xs k x x gets) in
        let more = ltb-false _ n (parts.1 k x high (slice_get_within xs k x gets)) in
        omega (arith, is, more)

    -- what stands at the point is the first with the number, or none has it
    pub first_at : (k : ℕ) (x : X) → slice_get xs k ≡ Some x → k < at → number x ≢ n
    first_at k x gets low is = let less = below_point k x gets low in absurd (omega (arith, less, is))

    pub none_past : length xs ≤ at → (k : ℕ) (x : X) → slice_get xs k ≡ Some x → number x ≢ n
    none_past end k x gets = let inside = slice_get_within xs k x gets in first_at k x gets (omega (arith, inside, end))

    pub none_but : Rises number xs → (y : X) → slice_get xs at ≡ Some y → number y ≢ n → (k : ℕ) (x : X) → slice_get xs k ≡ Some x → number x ≢ n
    none_but rises y here other k x gets is =
        ⊎_elim
        (λ (low : k < at). first_at k x gets low is)
        (λ (high : at ≤ k).
        ⊎_elim
        (λ (past : at < k). let a = from_point at y here (omega arith) in let b = rises at k y x past here gets in absurd (omega (arith, a, b, is)))
        (λ (same : k ≤ at). let e : at ≡ k = omega (arith, high, same) in other (ap number (same_Some y x (sym here ∙ ap (slice_get xs) e ∙ gets)) ∙ is))
        (cases_lt at k))
        (cases_lt k at)

-- a list without a first has none
pub none_at_all : {X : Type 0} (l : List X) → slice_get l 0 ≡ None → (j : ℕ) (x : X) → slice_get l j ≡ Some x → ⊥
none_at_all l gone j x gets = let inside = slice_get_within l j x gets in let first = slice_get-some l 0 (omega (arith, inside)) in none-some first.0 (sym gone ∙ first.1)

-- what a search found
pub first_there : (l : List Standing) (ticket at : ℕ) (s : Standing) → slice_get l at ≡ Some s → s.ticket ≡ ticket
    → ((k : ℕ) (z : Standing) → slice_get l k ≡ Some z → k < at → z.ticket ≢ ticket)
    → (at < length l) × ((x : Standing) × ((slice_get l at ≡ Some x) × (x.ticket ≡ ticket) × IsFirst l ticket at))
unfolding IsFirst
first_there l ticket at s gets is first = (slice_get_within l at s gets, (s, (gets, is, λ k z low there. first k z there low)))

pub one_there : (l : List Waiting) (ticket at : ℕ) (w : Waiting) → slice_get l at ≡ Some w → w.ticket ≡ ticket
    → (at < length l) × ((x : Waiting) × ((slice_get l at ≡ Some x) × (x.ticket ≡ ticket)))
one_there l ticket at w gets is = (slice_get_within l at w gets, (w, (gets, is)))

-- ---- which of those that stand are below a number

or_true : (a b : Bool) → b ≡ true → (a || b) ≡ true
or_true true b is = refl
or_true false b is = is

some_below : (l : List Standing) (ticket n j : ℕ) (s : Standing) → slice_get l j ≡ Some s → s.ticket ≡ ticket → s.number < n → stands_below l ticket n ≡ true
some_below [] ticket n j s gets is less = absurd (none-some s gets)
some_below (x ∷ xs) ticket n zero s gets is less =
    let same = same_Some x s gets in
    let a : (x.ticket == ticket) ≡ true = eq-eqb x.ticket ticket (ap (λ (z : Standing). z.ticket) same ∙ is) in
    let b : nat_lt x.number n ≡ true = lt-ltb x.number n (let e = ap (λ (z : Standing). z.number) same in omega (arith, e, less)) in
    ap (λ v. (v && nat_lt x.number n) || stands_below xs ticket n) a ∙ ap (λ v. v || stands_below xs ticket n) b
some_below (x ∷ xs) ticket n (suc j) s gets is less = or_true ((x.ticket == ticket) && nat_lt x.number n) (stands_below xs ticket n) (some_below xs ticket n j s gets is less)

none_below : (l : List Standing) (ticket n : ℕ) → ((k : ℕ) (s : Standing) → slice_get l k ≡ Some s → s.ticket ≡ ticket → n ≤ s.number) → stands_below l ticket n ≡ false
none_below [] ticket n each = refl
none_below (x ∷ xs) ticket n each = ap (λ b. b || stands_below xs ticket n) this ∙ none_below xs ticket n (λ k s gets. each (suc k) s gets) where
  this : ((x.ticket == ticket) && nat_lt x.number n) ≡ false
  this = ⊎_elim
      (λ is. ap (λ b. b && nat_lt x.number n) (eq-eqb x.ticket ticket is) ∙ le-ltb x.number n (each 0 x refl is))
      (λ other. ap (λ b. b && nat_lt x.number n) (ne_eqb x.ticket ticket other))
      (cases_eq x.ticket ticket)

-- ---- the order is kept

module _ (standing : List Standing) (waiting : List Waiting) (ticket next : ℕ) (was : IsInOrder standing waiting ticket next) where
  -- more numbers are used
  pub order_accepted : (more : ℕ) → next ≤ more → IsInOrder standing waiting ticket more
  order_accepted more on = record {
    tickets_stand = was.tickets_stand;
    numbers_stand = was.numbers_stand;
    tickets_wait = was.tickets_wait;
    behind = was.behind;
    stand_below = λ i s at. let low = was.stand_below i s at in (low.0, let less = low.1 in omega (arith, less, on));
    wait_below = was.wait_below;
  }

  -- a ticket is taken back
  pub order_given_back : (at : ℕ) → IsInOrder (take at standing ++ drop (suc at) standing) waiting ticket next
  order_given_back at = record {
    tickets_stand = rises_without (λ (s : Standing). s.ticket) standing at was.tickets_stand;
    numbers_stand = rises_without (λ (s : Standing). s.number) standing at was.numbers_stand;
    tickets_wait = was.tickets_wait;
    behind = λ i j s w gets. let from = stood standing at i s gets in was.behind from.0 j s w from.1;
    stand_below = λ i s gets. let from = stood standing at i s gets in was.stand_below from.0 s from.1;
    wait_below = was.wait_below;
  }

  -- an emission waits no more
  pub order_withdrawn : (at : ℕ) → IsInOrder standing (take at waiting ++ drop (suc at) waiting) ticket next
  order_withdrawn at = record {
    tickets_stand = was.tickets_stand;
    numbers_stand = was.numbers_stand;
    tickets_wait = rises_without (λ (w : Waiting). w.ticket) waiting at was.tickets_wait;
    behind = λ i j s w there gets. let from = stood waiting at j w gets in was.behind i from.0 s w there from.1;
    stand_below = was.stand_below;
    wait_below = λ j w gets. let from = stood waiting at j w gets in was.wait_below from.0 w from.1;
  }

  -- one more waits, with the next ticket
  pub order_waited : (w : Waiting) → w.ticket ≡ ticket → IsInOrder standing (waiting ++ w ∷ []) (ticket + 1) next
  order_waited w is = record {
    tickets_stand = was.tickets_stand;
    numbers_stand = was.numbers_stand;
    tickets_wait = rises_on (λ (x : Waiting). x.ticket) waiting w was.tickets_wait (λ i x gets. let low = was.wait_below i x gets in omega (arith, low, is));
    behind = λ i j s x there gets. ⊎_elim
        (λ here. was.behind i j s x there here)
        (λ last. let low = (was.stand_below i s there).0 in let same = ap (λ (z : Waiting). z.ticket) last.1 in omega (arith, low, same, is))
        (last_or_before waiting w x j gets);
    stand_below = λ i s at. let low = was.stand_below i s at in (let less = low.0 in omega (arith, less), low.1);
    wait_below = λ j x gets. ⊎_elim
        (λ here. let low = was.wait_below j x here in omega (arith, low))
        (λ last. let same = ap (λ (z : Waiting). z.ticket) last.1 in omega (arith, same, is))
        (last_or_before waiting w x j gets);
  }

  -- a ticket is used
  pub order_used : IsInOrder standing waiting (ticket + 1) next
  order_used = record {
    tickets_stand = was.tickets_stand;
    numbers_stand = was.numbers_stand;
    tickets_wait = was.tickets_wait;
    behind = was.behind;
    stand_below = λ i s at. let low = was.stand_below i s at in (let less = low.0 in omega (arith, less), low.1);
    wait_below = λ j x gets. let low = was.wait_below j x gets in omega (arith, low);
  }

  -- the ticket of an accepted emission stands
  pub order_stood : (x : Standing) → ((i : ℕ) (s : Standing) → slice_get standing i ≡ Some s → (s.ticket < x.ticket) × (s.number < x.number))
      → ((j : ℕ) (w : Waiting) → slice_get waiting j ≡ Some w → x.ticket < w.ticket) → x.ticket < ticket → x.number < next
      → IsInOrder (standing ++ x ∷ []) waiting ticket next
  order_stood x above before low less = record {
    tickets_stand = rises_on (λ (s : Standing). s.ticket) standing x was.tickets_stand (λ i s gets. (above i s gets).0);
    numbers_stand = rises_on (λ (s : Standing). s.number) standing x was.numbers_stand (λ i s gets. (above i s gets).1);
    tickets_wait = was.tickets_wait;
    behind = λ i j s w gets there. ⊎_elim
        (λ here. was.behind i j s w here there)
        (λ last. let same = ap (λ (z : Standing). z.ticket) last.1 in let a = before j w there in omega (arith, a, same))
        (last_or_before standing x s i gets);
    stand_below = λ i s gets. ⊎_elim
        (λ here. was.stand_below i s here)
        (λ last. (let same = ap (λ (z : Standing). z.ticket) last.1 in omega (arith, same, low), let same = ap (λ (z : Standing). z.number) last.1 in omega (arith, same, less)))
        (last_or_before standing x s i gets);
    wait_below = was.wait_below;
  }

  -- the first one waits no more
  pub order_left : IsInOrder standing (drop 1 waiting) ticket next
  order_left = record {
    tickets_stand = was.tickets_stand;
    numbers_stand = was.numbers_stand;
    tickets_wait = rises_after (λ (w : Waiting). w.ticket) waiting was.tickets_wait;
    behind = λ i j s w there gets. was.behind i (suc j) s w there (sym (slice_get-drop 1 waiting j (suc j) (omega arith)) ∙ gets);
    stand_below = was.stand_below;
    wait_below = λ j w gets. was.wait_below (suc j) w (sym (slice_get-drop 1 waiting j (suc j) (omega arith)) ∙ gets);
  }

  -- its ticket is above those that stand, and below the others that wait
  pub left_stands_last : (first : Waiting) → slice_get waiting 0 ≡ Some first → ((i : ℕ) (s : Standing) → slice_get standing i ≡ Some s → (s.ticket < first.ticket) × (s.number < next))
      × ((j : ℕ) (w : Waiting) → slice_get (drop 1 waiting) j ≡ Some w → first.ticket < w.ticket) × (first.ticket < ticket)
  left_stands_last first here = (
    λ i s gets. (was.behind i 0 s first gets here, (was.stand_below i s gets).1),
    λ j w gets. was.tickets_wait 0 (suc j) first w (omega arith) here (sym (slice_get-drop 1 waiting j (suc j) (omega arith)) ∙ gets),
    was.wait_below 0 first here,
  )

pub order_empty : (ticket next : ℕ) → IsInOrder [] [] ticket next
order_empty ticket next = record {
  tickets_stand = λ i j x y before first second. absurd (none-some x first);
  numbers_stand = λ i j x y before first second. absurd (none-some x first);
  tickets_wait = λ i j x y before first second. absurd (none-some x first);
  behind = λ i j s w gets there. absurd (none-some s gets);
  stand_below = λ i s gets. absurd (none-some s gets);
  wait_below = λ j w gets. absurd (none-some w gets);
}

-- ---- who is the first that isn't finished

module _ (q : SequencerSeen) (below next : ℕ) (was : IsInOrder q.standing q.waiting q.ticket next) where
  -- one that waits is unfinished
  waits_on : (ticket i : ℕ) (w : Waiting) → slice_get q.waiting i ≡ Some w → w.ticket ≡ ticket → IsUnfinishedAt q below ticket
  waits_on ticket i w gets is =
      let apart : NoneStands q.standing ticket = λ k s there same. let less = was.behind k i s w there gets in absurd (omega (arith, less, same, is)) in
      (none_below q.standing ticket below (λ k s there same. absurd (apart k s there same)), (w.emitter, inl (i, w, (gets, is), refl, apart)))

  -- one that stands from the number on, too
  stands_on : (ticket i : ℕ) (s : Standing) → slice_get q.standing i ≡ Some s → s.ticket ≡ ticket → below ≤ s.number → IsUnfinishedAt q below ticket
  unfolding IsFirst
  stands_on ticket i s gets is high =
      let rises = was.tickets_stand in
      let first : (k : ℕ) (z : Standing) → k < i → slice_get q.standing k ≡ Some z → z.ticket ≢ ticket = λ k z low there same. let less = rises k i z s low there gets in absurd (omega (arith, less, same, is)) in
      let one : (k : ℕ) (z : Standing) → slice_get q.standing k ≡ Some z → z.ticket ≡ ticket → below ≤ z.number = λ k z there same.
      ⊎_elim
      (λ (low : k < i). absurd (first k z low there same))
      (λ (up : i ≤ k). ⊎_elim
      (λ (past : i < k). let less = rises i k s z past gets there in absurd (omega (arith, less, same, is)))
      (λ (down : k ≤ i). let e : i ≡ k = omega (arith, up, down) in let here = ap (λ (x : Standing). x.number) (same_Some s z (sym gets ∙ ap (slice_get q.standing) e ∙ there)) in omega (arith, here, high))
      (cases_lt i k))
      (cases_lt k i) in
      (none_below q.standing ticket below one, (s.emitter, inr (i, s, (gets, is, first), refl)))

  -- who is unfinished stands from the number on, or waits
  abbrev IsLeft : ℕ → Type 0
  IsLeft ticket = ((i : ℕ) × (s : Standing) × (slice_get q.standing i ≡ Some s) × (s.ticket ≡ ticket) × (below ≤ s.number))
      ⊎ ((i : ℕ) × (w : Waiting) × (slice_get q.waiting i ≡ Some w) × (w.ticket ≡ ticket))

  left : (ticket : ℕ) → IsUnfinishedAt q below ticket → IsLeft ticket
  left ticket on = ⊎_elim
      (λ waits. inr (waits.0, waits.1, waits.2.0, waits.2.1))
      (λ stands. ⊎_elim
      (λ (low : (stands.1).number < below). absurd (true-not-false (sym (some_below q.standing ticket below stands.0 stands.1 stands.2.0 stands.2.1 low) ∙ on.0)))
      (λ high. inl (stands.0, stands.1, stands.2.0, stands.2.1, high))
      (cases_lt (stands.1).number below))
      on.1.1
    where
      true-not-false : true ≡ false → ⊥
      true-not-false e = cc e

  module _ (at : ℕ) (parts : Parts (λ (s : Standing). s.number) q.standing below at) where
    -- one that stands is
    pub first_stands : (s : Standing) → slice_get q.standing at ≡ Some s → (first : Ticket) → first.0 ≡ s.ticket → FirstUnfinished q below (Some first)
    first_stands s here first is = record {
      none_before = λ ticket before on. ⊎_elim
          (λ stands.
          let high = from_point (λ (z : Standing). z.number) q.standing below at parts in
          ⊎_elim
          (λ (low : stands.0 < at). let less = below_point (λ (z : Standing). z.number) q.standing below at parts stands.0 stands.1 stands.2 low in let more = stands.4 in omega (arith, less, more))
          (λ (up : at ≤ stands.0). ⊎_elim
          (λ (past : at < stands.0). let less = was.tickets_stand at stands.0 s stands.1 past here stands.2 in let same = stands.3 in omega (arith, less, same, before, is))
          (λ (down : stands.0 ≤ at). let e : at ≡ stands.0 = omega (arith, up, down) in let one = ap (λ (z : Standing). z.ticket) (same_Some s stands.1 (sym here ∙ ap (slice_get q.standing) e ∙ stands.2)) in let same = stands.3 in omega (arith, one, same, before, is))
          (cases_lt at stands.0))
          (cases_lt stands.0 at))
          (λ waits. let less = was.behind at waits.0 s waits.1 here waits.2 in let same = waits.3 in omega (arith, less, same, before, is))
          (left ticket on);
      each_after = λ ticket after out. ⊎_elim
          (λ stands. ⊎_elim
          (λ (low : stands.0 < at). let less = was.tickets_stand stands.0 at stands.1 s low stands.2 here in let same = stands.3 in absurd (after (omega (arith, less, same, is))))
          (λ (up : at ≤ stands.0). stands_on ticket stands.0 stands.1 stands.2 stands.3 (from_point (λ (z : Standing). z.number) q.standing below at parts stands.0 stands.1 stands.2 up))
          (cases_lt stands.0 at))
          (λ waits. waits_on ticket waits.0 waits.1 waits.2.0 waits.2.1)
          out;
    }

    module _ (end : length q.standing ≤ at) where
      none_stands : (ticket i : ℕ) (s : Standing) → slice_get q.standing i ≡ Some s → below ≤ s.number → ⊥
      none_stands ticket i s gets high =
          let inside = slice_get_within q.standing i s gets in
          let less = below_point (λ (z : Standing). z.number) q.standing below at parts i s gets (omega (arith, inside, end)) in
          omega (arith, less, high)

      -- one that waits is
      pub first_waits : (w : Waiting) → slice_get q.waiting 0 ≡ Some w → (first : Ticket) → first.0 ≡ w.ticket → FirstUnfinished q below (Some first)
      first_waits w here first is = record {
        none_before = λ ticket before on. ⊎_elim
            (λ stands. none_stands ticket stands.0 stands.1 stands.2 stands.4)
            (λ waits. ⊎_elim
            (λ (past : 0 < waits.0). let less = was.tickets_wait 0 waits.0 w waits.1 past here waits.2 in let same = waits.3 in omega (arith, less, same, before, is))
            (λ (down : waits.0 ≤ 0). let e : 0 ≡ waits.0 = omega (arith, down) in let one = ap (λ (z : Waiting). z.ticket) (same_Some w waits.1 (sym here ∙ ap (slice_get q.waiting) e ∙ waits.2)) in let same = waits.3 in omega (arith, one, same, before, is))
            (cases_lt 0 waits.0))
            (left ticket on);
        each_after = λ ticket after out. ⊎_elim
            (λ stands. let less = was.behind stands.0 0 stands.1 w stands.2 here in let same = stands.3 in absurd (after (omega (arith, less, same, is))))
            (λ waits. waits_on ticket waits.0 waits.1 waits.2.0 waits.2.1)
            out;
      }

      -- nobody is
      pub none_unfinished : ((j : ℕ) (w : Waiting) → slice_get q.waiting j ≡ Some w → ⊥) → FirstUnfinished q below None
      none_unfinished none = record {
        none_before = λ ticket before on. ⊎_elim
            (λ stands. none_stands ticket stands.0 stands.1 stands.2 stands.4)
            (λ waits. none waits.0 waits.1 waits.2)
            (left ticket on);
        each_after = λ ticket after out. absurd (after tt);
      }
