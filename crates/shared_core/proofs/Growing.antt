-- What was accepted stays, and each subscription goes on from where it was.
use Rattle.std.proofs.Common.{◌≡◌, ℕ, zero, suc, Bool, true, false, cond, ◌&&◌, ◌==◌, List, [], ◌∷◌, ◌++◌, length, drop, map, Some, slice_get, refl, sym, ap, ◌∙◌, subst, arith, append_assoc}
use Rattle.std.proofs.lemmas.List.{append-nil, map-append, drop-append-le}
use Rattle.std.proofs.lemmas.Option.{none-some, same_Some}
use Rattle.std.proofs.Math.ListN.{length-map}
use Rattle.shared_core.specs.Flow.{cache_start, State, Subscription, empty, accept, lose_oldest, open_next, change, rest, greet_first, receive_first, lose_first, greeted, received_next, lost_next, pending, capacity, values}
use Rattle.shared_core.specs.Calls.{after}
use Rattle.flow_terms.specs.Lists.{IsPrefix}
use Rattle.shared_core.specs.Story.{GoesOn, Grows, BeginsWithPrelude, GrowthLaw, CacheLaw}
use Rattle.shared_core.proofs.Greeting.{rest-closed}
use Rattle.shared_core.proofs.Pending.{pending-closed, opened_with}
use Rattle.shared_core.specs.Accepting.{IsSound}
use Rattle.shared_core.proofs.Sound.{sound-empty, sound-after}
use Rattle.shared_core.proofs.Walks.{OverEvents, after_over}

prefix_self : {X : Type 0} (xs : List X) → IsPrefix xs xs
prefix_self xs = ([], sym (append-nil xs))

prefix_then : {X : Type 0} (xs ys zs : List X) → IsPrefix xs ys → IsPrefix ys zs → IsPrefix xs zs
prefix_then xs ys zs first second = (first.0 ++ second.0, second.1 ∙ ap (λ front. front ++ second.0) first.1 ∙ append_assoc xs first.0 second.0)

on_same : {T : Type 0} (s : Subscription T) → GoesOn s s
on_same s = record { prelude = refl; given = omega arith; start = refl; received = prefix_self s.received; lost = prefix_self s.lost; closed = λ _. refl }

on_then : {T : Type 0} (s t u : Subscription T) → GoesOn s t → GoesOn t u → GoesOn s u
on_then {T = T} s t u first second = record {
  prelude = second.prelude ∙ first.prelude;
  given = omega (arith, first.given, second.given);
  start = second.start ∙ first.start;
  received = prefix_then s.received t.received u.received first.received second.received;
  lost = prefix_then s.lost t.lost u.lost first.lost second.lost;
  closed = λ closed. second.closed (ap (λ (v : Subscription T). v.live) (first.closed closed) ∙ closed) ∙ first.closed closed;
}

on_greet_first : {T : Type 0} (s : Subscription T) (vs : List T) → (s.live ≡ false → vs ≡ []) → GoesOn s (greet_first s vs)
on_greet_first s [] none = on_same s
on_greet_first s (v ∷ vs) none = record {
  prelude = refl;
  given = omega arith;
  start = refl;
  received = prefix_self s.received;
  lost = prefix_self s.lost;
  closed = λ closed. absurd (let h = none closed in cc);
}

on_receive_first : {T : Type 0} (s : Subscription T) (vs : List T) (indexes : List ℕ) → (s.live ≡ false → indexes ≡ []) → GoesOn s (receive_first s vs indexes)
on_receive_first s (v ∷ vs) indexes none = on_same s
on_receive_first s [] [] none = on_same s
on_receive_first s [] (i ∷ more) none = record {
  prelude = refl;
  given = omega arith;
  start = refl;
  received = (i ∷ [], refl);
  lost = prefix_self s.lost;
  closed = λ closed. absurd (let h = none closed in cc);
}

on_lose_first : {T : Type 0} (s : Subscription T) (indexes : List ℕ) → (s.live ≡ false → indexes ≡ []) → GoesOn s (lose_first s indexes)
on_lose_first s [] none = on_same s
on_lose_first s (i ∷ more) none = record {
  prelude = refl;
  given = omega arith;
  start = refl;
  received = prefix_self s.received;
  lost = (i ∷ [], refl);
  closed = λ closed. absurd (let h = none closed in cc);
}

on_close : {T : Type 0} (s : Subscription T) → GoesOn s (record s { live = false })
on_close s = record {
  prelude = refl;
  given = omega arith;
  start = refl;
  received = prefix_self s.received;
  lost = prefix_self s.lost;
  closed = λ closed. ap (λ b. record s { live = b }) (sym closed);
}

on_cond : {T : Type 0} (b : Bool) (s t : Subscription T) → GoesOn s t → GoesOn s (cond b t s)
on_cond true s t on = on
on_cond false s t on = on_same s

-- ---- lists of subscriptions

abbrev AllGoOn : {T : Type 0} → List (Subscription T) → List (Subscription T) → Type 0
AllGoOn {T} xs ys = (k : ℕ) (s : Subscription T) → slice_get xs k ≡ Some s → (later : Subscription T) × (slice_get ys k ≡ Some later) × GoesOn s later

all_changed : {T : Type 0} (n : ℕ) (f : Subscription T → Subscription T) → ((s : Subscription T) → GoesOn s (f s)) → (xs : List (Subscription T)) → AllGoOn xs (change n f xs)
all_changed n f on [] k s gets = absurd (none-some s gets)
all_changed zero f on (x ∷ xs) zero s gets = (f x, refl, subst (λ t. GoesOn t (f x)) (same_Some x s gets) (on x))
all_changed zero f on (x ∷ xs) (suc k) s gets = (s, gets, on_same s)
all_changed (suc n) f on (x ∷ xs) zero s gets = (x, refl, subst (λ t. GoesOn t x) (same_Some x s gets) (on_same x))
all_changed (suc n) f on (x ∷ xs) (suc k) s gets = all_changed n f on xs k s gets

all_mapped : {T : Type 0} (f : Subscription T → Subscription T) → ((s : Subscription T) → GoesOn s (f s)) → (xs : List (Subscription T)) → AllGoOn xs (map f xs)
all_mapped f on [] k s gets = absurd (none-some s gets)
all_mapped f on (x ∷ xs) zero s gets = (f x, refl, subst (λ t. GoesOn t (f x)) (same_Some x s gets) (on x))
all_mapped f on (x ∷ xs) (suc k) s gets = all_mapped f on xs k s gets

all_pushed : {T : Type 0} (xs : List (Subscription T)) (new : Subscription T) → AllGoOn xs (xs ++ new ∷ [])
all_pushed [] new k s gets = absurd (none-some s gets)
all_pushed (x ∷ xs) new zero s gets = (s, gets, on_same s)
all_pushed (x ∷ xs) new (suc k) s gets = all_pushed xs new k s gets

last_pushed : {T : Type 0} (xs : List (Subscription T)) (new : Subscription T) → slice_get (xs ++ new ∷ []) (length xs) ≡ Some new
last_pushed [] new = refl
last_pushed (x ∷ xs) new = last_pushed xs new

module _ {T : Type 0} where
  pub grows_same : (M : State T) → Grows M M
  grows_same M = record { accepted = prefix_self M.accepted; subscriptions = λ k s gets. (s, gets, on_same s) }

  pub grows_then : {M N K : State T} → Grows M N → Grows N K → Grows M K
  grows_then {M = M} {N = N} {K = K} first second = record {
    accepted = prefix_then M.accepted N.accepted K.accepted first.accepted second.accepted;
    subscriptions = λ k s gets.
        let mid = first.subscriptions k s gets in
        let last = second.subscriptions k mid.0 mid.1 in
        (last.0, last.1, on_then s mid.0 last.0 mid.2 last.2);
  }

  pub grows_accept : (emitter : ℕ) (v : T) (M : State T) → Grows M (accept emitter v M)
  grows_accept emitter v M = record { accepted = ((emitter, v) ∷ [], refl); subscriptions = λ k s gets. (s, gets, on_same s) }

  grows_lose_oldest : (M : State T) → Grows M (lose_oldest M)
  grows_lose_oldest M = record {
    accepted = prefix_self M.accepted;
    subscriptions = all_mapped _ (λ s. on_cond (s.live && (length (pending (length M.accepted) s) == capacity M.parameters)) s (lost_next (length M.accepted) s)
        (on_lose_first s (pending (length M.accepted) s) (pending-closed (length M.accepted) s))) M.subscriptions;
  }

  pub grows_lose : (k : ℕ) (M : State T) → Grows M (record M { subscriptions = change k (lost_next (length M.accepted)) M.subscriptions })
  grows_lose k M = record {
    accepted = prefix_self M.accepted;
    subscriptions = all_changed k (lost_next (length M.accepted)) (λ s. on_lose_first s (pending (length M.accepted) s) (pending-closed (length M.accepted) s)) M.subscriptions;
  }

  pub grows-events : OverEvents {T = T} Grows
  grows-events = record {
    quiet = record {
      same = grows_same;
      then = λ first second. grows_then first second;
      accepts = λ emitter v M _. grows_accept emitter v M;
      pushes = λ emitter v M _. grows_then (grows_lose_oldest M) (grows_accept emitter v (lose_oldest M));
      opens = λ prelude M. record { accepted = prefix_self M.accepted; subscriptions = all_pushed M.subscriptions _ };
      closes = λ k M. record { accepted = prefix_self M.accepted; subscriptions = all_changed k (λ s. record s { live = false }) on_close M.subscriptions };
      tickets = λ M tickets. record { accepted = prefix_self M.accepted; subscriptions = λ k s gets. (s, gets, on_same s) };
    };
    resets = λ M. record { accepted = prefix_self M.accepted; subscriptions = λ k s gets. (s, gets, on_same s) };
    greets = λ k M. record {
      accepted = prefix_self M.accepted;
      subscriptions = all_changed k greeted (λ s. on_greet_first s (rest s) (rest-closed s)) M.subscriptions;
    };
    receives = λ k M. record {
      accepted = prefix_self M.accepted;
      subscriptions = all_changed k (received_next (length M.accepted)) (λ s. on_receive_first s (rest s) (pending (length M.accepted) s) (pending-closed (length M.accepted) s)) M.subscriptions;
    };
  }

  -- a subscription that is opened begins with its prelude and the cache, in any state that grows from there
  pub begins_with_prelude : (prelude : List T) (M N : State T) → IsSound M → Grows (open_next prelude M) N → BeginsWithPrelude prelude M N
  begins_with_prelude prelude M N sound grown =
      let start = cache_start M in
      let opened : Subscription T = opened_with prelude start in
      let on = grown.subscriptions (length M.subscriptions) opened (last_pushed M.subscriptions opened) in
      let all = grown.accepted in (
        on.0,
        on.1,
        on.2.prelude,
        (
          all.0,
          all.1,
          ap (λ i. drop i (values N.accepted)) on.2.start ∙ ap (λ xs. drop start (values xs)) all.1
              ∙ ap (drop start) (map-append (λ (e : ℕ × T). e.1) M.accepted all.0)
              ∙ drop-append-le start (values M.accepted) (values all.0) (omega (arith, sound.reset, length-map M.accepted (λ (e : ℕ × T). e.1))),
        ),
      )

pub growth_law : (T : Type 0) → GrowthLaw T
growth_law T M calls = after_over grows-events calls M

pub cache_law : (T : Type 0) → CacheLaw T
cache_law T p prelude calls later =
    let M = after calls (empty p) in
    begins_with_prelude prelude M (after later (open_next prelude M)) (sound-after calls (empty p) (sound-empty p)) (after_over grows-events later (open_next prelude M))
