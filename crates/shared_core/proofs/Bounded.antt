-- No subscription has more pending than it has places, and an emission waits only where some subscription has all of them taken.
use Rattle.std.proofs.Common.{◌≡◌, ◌≢◌, ℕ, suc, ◌+◌, ◌-◌, ◌<◌, ◌≤◌, ⊎_elim, true, false, cond, ◌&&◌, ◌==◌, ltb, List, [], ◌∷◌, ◌++◌, length, map, Some, slice_get, refl, sym, ap, ◌∙◌, subst, arith, length-append, length-drop}
use Rattle.std.proofs.Math.ListN.{length-map}
use Rattle.std.proofs.lemmas.Bool.{eqb-true, eqb-false, ltb-true, ltb-false, cases_lt}
use Rattle.std.specs.List.{AllByRecursion, filter_map, list_all, list_any}
use Rattle.shared_core.specs.Flow.{cache_start, rest, greeted, Parameters, State, Subscription, Standing, waits, stands, gone, does_wait, empty, accept, lose_oldest, has_room, pending, pending_values, places, capacity, received_next, lost_next, values}
use Rattle.shared_core.specs.Calls.{Call, after, reset}
use Rattle.shared_core.specs.Shown.{seen_of, live_from}
use Rattle.shared_core.specs.Story.{IsTold, if_waiting}
use Rattle.shared_core.specs.Headline.{OfEveryExecution, AtMostItsPlacesPending, NoneWaitsBesideRoom}
use Rattle.shared_core.proofs.Emissions.{waiting_is}
use Rattle.shared_core.proofs.Greeting.{pending-greeted, rest-live}
use Rattle.shared_core.proofs.Pending.{position, length-pending, pending-closed, pending-live, none_left, pending_values-live, received_next-some, received_next-none, lost_next-some, received_next-left, IsTold-received, IsTold-greeted, IsTold-received_next, IsTold-lost, IsTold-later, opened_with, IsTold-opened}
use Rattle.shared_core.proofs.Receiving.{at_contains, contains_at, shown_at, shown_one}
use Rattle.shared_core.proofs.Sequence.{calm_queued, queued-after}
use Rattle.shared_core.proofs.Sound.{all_at, all_changed, all_pushed, all_weaker}
use Rattle.shared_core.proofs.Walks.{OverEvents, after_over}

-- ---- one subscription

-- it is told, and has at most so many pending
pub record Fits {T : Type 0} (most total : ℕ) (s : Subscription T) : Type 0 where
  pub told : IsTold total s
  pub at_most : length (pending total s) ≤ most

-- it is told, and has a place left
record Has {T : Type 0} (most total : ℕ) (s : Subscription T) : Type 0 where
  told : IsTold total s
  less : length (pending total s) < most

none_pending : {T : Type 0} (total : ℕ) (s : Subscription T) → s.live ≡ false → length (pending total s) ≡ 0
none_pending total s closed = ap length (pending-closed total s closed)

-- one more acceptance is one more value at most
fits-later : {T : Type 0} (most total : ℕ) (s : Subscription T) → Has most total s → Fits most (total + 1) s
fits-later most total s has =
    let later = IsTold-later total (total + 1) s (omega arith) has.told in
    record {
      told = later;
      at_most = elim s.live as (λ b. s.live ≡ b → length (pending (total + 1) s) ≤ most) [
        | true ↦ λ live. omega (arith, length-pending total s has.told live, length-pending (total + 1) s later live, has.less)
        | false ↦ λ closed. omega (arith, none_pending (total + 1) s closed)
      ] refl;
    }

-- a greeting leaves as many pending, a receipt no more
fits-greeted : {T : Type 0} (most total : ℕ) (s : Subscription T) → Fits most total s → Fits most total (greeted s)
fits-greeted most total s fits = record {
  told = IsTold-greeted total s fits.told;
  at_most = omega (arith, ap length (pending-greeted total s), fits.at_most);
}

fits-received : {T : Type 0} (most total : ℕ) (s : Subscription T) → Fits most total s → Fits most total (received_next total s)
fits-received most total s fits = record {
  told = IsTold-received_next total s fits.told;
  at_most = elim s.live as (λ b. s.live ≡ b → length (pending total (received_next total s)) ≤ most) [
    | true ↦ λ live. ⊎_elim
        (λ (below : position s < total).
        elim (rest s) as (λ vs. rest s ≡ vs → length (pending total (received_next total s)) ≤ most) [
          | v ∷ more ↦ λ left. rw (received_next-left total s v more left) fits.at_most
          | [] ↦ λ none.
              let next = IsTold-received total s fits.told (sym (rest-live s live) ∙ none) below in
              rw (received_next-some total s fits.told live none below)
              (omega (arith, length-pending total s fits.told live, length-pending total (record s { received = s.received ++ position s ∷ [] }) next live, length-append s.received (position s ∷ []), fits.at_most))
        ] refl)
        (λ (above : total ≤ position s). rw (received_next-none total s (pending-live total s fits.told live ∙ none_left total (position s) above)) fits.at_most)
        (cases_lt (position s) total)
    | false ↦ λ closed. rw (received_next-none total s (pending-closed total s closed)) fits.at_most
  ] refl;
}

-- where all places are taken a loss leaves one
fits-lost : {T : Type 0} (all total : ℕ) (s : Subscription T) → all ≢ 0 → Fits all total s → Has all total (cond (s.live && (length (pending total s) == all)) (lost_next total s) s)
fits-lost all total s some fits =
    elim s.live as (λ b. s.live ≡ b → Has all total (cond (b && (length (pending total s) == all)) (lost_next total s) s)) [
      | true ↦ λ live. elim (length (pending total s) == all) as (λ b. (length (pending total s) == all) ≡ b → Has all total (cond b (lost_next total s) s)) [
        | true ↦ λ is.
            let full = eqb-true (length (pending total s)) all is in
            let below : position s < total = omega (arith, length-pending total s fits.told live, full, some) in
            let lost = IsTold-lost total s fits.told below in
            rw (lost_next-some total s fits.told live below)
            record {
              told = lost;
              less = omega (arith, length-pending total s fits.told live, length-pending total (record s { lost = s.lost ++ position s ∷ [] }) lost live, length-append s.lost (position s ∷ []), full, below);
            }
        | false ↦ λ is. let other = eqb-false (length (pending total s)) all is in record { told = fits.told; less = omega (arith, fits.at_most, other) }
      ] refl
      | false ↦ λ closed. record { told = fits.told; less = omega (arith, none_pending total s closed, some) }
    ] refl

fits-closed : {T : Type 0} (most total : ℕ) (s : Subscription T) → Fits most total s → Fits most total (record s { live = false })
fits-closed most total s fits = record {
  told = record { together = fits.told.together; within = fits.told.within; prelude_first = fits.told.prelude_first };
  at_most = omega (arith, none_pending total (record s { live = false }) refl);
}

fits-opened : {T : Type 0} (prelude : List T) (most total start : ℕ) → start ≤ total → total - start ≤ most → Fits most total (opened_with prelude start)
fits-opened prelude most total start low within =
    let told = IsTold-opened prelude total start low in
    record { told = told; at_most = omega (arith, length-pending total (opened_with prelude start) told refl, within) }

-- ---- all of them

has_each : {T : Type 0} (most total : ℕ) (xs : List (Subscription T)) → AllByRecursion (Fits most total) xs → list_all (λ s. ltb (length (pending total s)) most) xs ≡ true → AllByRecursion (Has most total) xs
has_each most total [] all room = tt
has_each most total (s ∷ xs) all room =
    elim (ltb (length (pending total s)) most) as (λ b. ltb (length (pending total s)) most ≡ b → (b && list_all (λ s. ltb (length (pending total s)) most) xs) ≡ true → AllByRecursion (Has most total) (s ∷ xs)) [
      | true ↦ λ is later. (record { told = all.0.told; less = ltb-true (length (pending total s)) most is }, has_each most total xs all.1 later)
      | false ↦ λ _ no. absurd (cc)
    ] refl room

lost_each : {T : Type 0} (all total : ℕ) (xs : List (Subscription T)) → all ≢ 0 → AllByRecursion (Fits all total) xs
    → AllByRecursion (Has all total) (map (λ s. cond (s.live && (length (pending total s) == all)) (lost_next total s) s) xs)
lost_each all total [] some fits = tt
lost_each all total (s ∷ xs) some fits = (fits-lost all total s some fits.0, lost_each all total xs some fits.1)

-- where there is no room, somebody has all places taken
full_one : {T : Type 0} (most total : ℕ) (xs : List (Subscription T)) → list_all (λ s. ltb (length (pending total s)) most) xs ≡ false → (k : ℕ) × (s : Subscription T) × (slice_get xs k ≡ Some s) × (most ≤ length (pending total s))
full_one most total [] full = absurd (cc)
full_one {T = T} most total (s ∷ xs) full =
    elim (ltb (length (pending total s)) most) as (λ b. ltb (length (pending total s)) most ≡ b → (b && list_all (λ s. ltb (length (pending total s)) most) xs) ≡ false
    → (k : ℕ) × (t : Subscription T) × (slice_get (s ∷ xs) k ≡ Some t) × (most ≤ length (pending total t))) [
      | true ↦ λ _ later. let found = full_one most total xs later in (suc found.0, found.1, found.2, found.3)
      | false ↦ λ is _. (0, s, refl, ltb-false (length (pending total s)) most is)
    ] refl full

module _ {T : Type 0} where
  -- each subscription fits, and the cache was reset at some moment before
  pub record IsBounded (M : State T) : Type 0 where
    pub reset : M.reset_at ≤ length M.accepted
    pub each : AllByRecursion (Fits (places M.parameters) (length M.accepted)) M.subscriptions

  one_accepted : (M N : State T) → N.parameters ≡ M.parameters → N.reset_at ≤ length M.accepted → length N.accepted ≡ length M.accepted + 1
      → AllByRecursion (Has (places M.parameters) (length M.accepted)) N.subscriptions → IsBounded N
  one_accepted M N same reset longer each = record {
    reset = omega (arith, reset, longer);
    each =
        subst (λ n. AllByRecursion (Fits (places N.parameters) n) N.subscriptions) (sym longer)
        (subst (λ p. AllByRecursion (Fits (places p) (length M.accepted + 1)) N.subscriptions) (sym same)
        (all_weaker (Has (places M.parameters) (length M.accepted)) (Fits (places M.parameters) (length M.accepted + 1)) (fits-later (places M.parameters) (length M.accepted)) N.subscriptions each));
  }

  bounded-accept : (emitter : ℕ) (v : T) (M : State T) → has_room M ≡ true → IsBounded M → IsBounded (accept emitter v M)
  unfolding has_room
  bounded-accept emitter v M room bounded =
      one_accepted M (accept emitter v M) refl bounded.reset (length-append M.accepted ((emitter, v) ∷ [])) (has_each (places M.parameters) (length M.accepted) M.subscriptions bounded.each room)

  bounded-push : (emitter : ℕ) (v : T) (M : State T) → capacity M.parameters ≢ 0 → IsBounded M → IsBounded (accept emitter v (lose_oldest M))
  bounded-push emitter v M some bounded =
      let all = capacity M.parameters in
      let total = length M.accepted in
      let same : places M.parameters ≡ all = omega (arith, some) in
      let lost = lost_each all total M.subscriptions some (subst (λ n. AllByRecursion (Fits n total) M.subscriptions) same bounded.each) in
      one_accepted M (accept emitter v (lose_oldest M)) refl bounded.reset (length-append M.accepted ((emitter, v) ∷ []))
      (subst (λ n. AllByRecursion (Has n total) (lose_oldest M).subscriptions) (sym same) lost)

  bounded-events : OverEvents {T = T} (λ M N. IsBounded M → IsBounded N)
  bounded-events = record {
    quiet = record {
      same = λ M bounded. bounded;
      then = λ first second bounded. second (first bounded);
      accepts = bounded-accept;
      pushes = bounded-push;
      opens = λ prelude M bounded. record {
        reset = bounded.reset;
        each = all_pushed (Fits (places M.parameters) (length M.accepted)) M.subscriptions _ bounded.each (fits-opened prelude (places M.parameters) (length M.accepted) (cache_start M) (omega (arith, bounded.reset)) (omega arith));
      };
      closes = λ k M bounded. record {
        reset = bounded.reset;
        each = all_changed (Fits (places M.parameters) (length M.accepted)) (λ s. record s { live = false }) (fits-closed (places M.parameters) (length M.accepted)) k M.subscriptions bounded.each;
      };
      tickets = λ M tickets bounded. record { reset = bounded.reset; each = bounded.each };
    };
    greets = λ k M bounded. record {
      reset = bounded.reset;
      each = all_changed (Fits (places M.parameters) (length M.accepted)) greeted (fits-greeted (places M.parameters) (length M.accepted)) k M.subscriptions bounded.each;
    };
    receives = λ k M bounded. record {
      reset = bounded.reset;
      each = all_changed (Fits (places M.parameters) (length M.accepted)) (received_next (length M.accepted)) (fits-received (places M.parameters) (length M.accepted)) k M.subscriptions bounded.each;
    };
    resets = λ M bounded. record { reset = omega arith; each = bounded.each };
  }

  pub bounded-after : (p : Parameters) (calls : List (Call T)) → IsBounded (after calls (empty p))
  bounded-after p calls = after_over bounded-events calls (empty p) (record { reset = omega arith; each = tt })

  -- as many values are pending as indexes
  length-pending_values : (accepted : List (ℕ × T)) (s : Subscription T) → IsTold (length accepted) s → s.live ≡ true → length (pending_values accepted s) ≡ length (pending (length accepted) s)
  length-pending_values accepted s told live =
      ap length (pending_values-live accepted s told live) ∙ length-drop (position s) (values accepted) ∙ ap (λ m. m - position s) (length-map accepted (λ (e : ℕ × T). e.1))
      ∙ sym (length-pending (length accepted) s told live)

  some_waits : (ts : List (Standing T)) → filter_map if_waiting ts ≢ [] → list_any does_wait ts ≡ true
  some_waits [] some = absurd (some refl)
  some_waits (waits emitter v ∷ rest) some = refl
  some_waits (stands i ∷ rest) some = some_waits rest some
  some_waits (gone ∷ rest) some = some_waits rest some

  full_live : (M : State T) → IsBounded M → has_room M ≡ false
      → (k : ℕ) × (s : Subscription T) × (slice_get M.subscriptions k ≡ Some s) × (s.live ≡ true) × (length (pending_values M.accepted s) ≡ places M.parameters)
  unfolding has_room
  full_live M bounded full =
      let most = places M.parameters in
      let total = length M.accepted in
      let found = full_one most total M.subscriptions full in
      let s = found.1 in
      let fits = all_at (Fits most total) M.subscriptions found.0 s bounded.each found.2 in
      let live : s.live ≡ true =
      elim s.live as (λ b. s.live ≡ b → b ≡ true) [
        | true ↦ λ _. refl
        | false ↦ λ closed. absurd (omega (arith, none_pending total s closed, found.3))
      ] refl in
      (found.0, s, found.2, live, length-pending_values M.accepted s fits.told live ∙ omega (arith, fits.at_most, found.3))

pub at_most_its_places_pending : (T : Type 0) → OfEveryExecution T AtMostItsPlacesPending
unfolding seen_of
at_most_its_places_pending T p calls n pending has =
    let N = after calls (empty p) in
    let found = at_contains (live_from N.accepted N.parameters.first N.subscriptions) (n, pending) has in
    let e = shown_one N.accepted N.parameters.first N.subscriptions found.0 n pending found.1 in
    let fits = all_at (Fits (places N.parameters) (length N.accepted)) N.subscriptions e.k e.s (bounded-after p calls).each e.gets in
    let count = ap length e.shows ∙ length-pending_values N.accepted e.s fits.told e.lives in
    omega (arith, count, fits.at_most)

pub none_waits_beside_room : (T : Type 0) → OfEveryExecution T NoneWaitsBesideRoom
unfolding seen_of
none_waits_beside_room T p calls some =
    let N = after calls (empty p) in
    let queued = queued-after calls (empty p) (calm_queued (empty p) refl) in
    let waits = some_waits N.tickets (λ none. some (waiting_is p calls ∙ none)) in
    let full = full_live N (bounded-after p calls) (queued.held waits) in
    let entry = shown_at N.accepted N.parameters.first N.subscriptions full.0 full.1 full.2 full.3 in
    record {
      all_places_taken = (
        N.parameters.first + full.0,
        pending_values N.accepted full.1,
        contains_at (live_from N.accepted N.parameters.first N.subscriptions) entry.0 (N.parameters.first + full.0, pending_values N.accepted full.1) entry.1,
        full.4,
      );
      waits_for_places = queued.suspends waits;
    }
