-- From its opening on, a live subscription receives its prelude, the replay cache as it stood then, and what was accepted later.
use Rattle.std.proofs.Common.{◌≡◌, ◌≢◌, ℕ, zero, suc, ◌+◌, ◌-◌, ◌<◌, ◌≤◌, ◌⊎◌, inl, inr, ⊎_elim, true, false, cond, ◌||◌, ◌==◌, eqb, List, [], ◌∷◌, ◌++◌, length, take, drop, map, Some, slice_get, Result, Ok, Err, refl, sym, ap, ◌∙◌, subst, arith, append_assoc, length-drop}
use Rattle.std.proofs.Math.Bool.{or-true}
use Rattle.std.proofs.Math.ListN.{length-map}
use Rattle.std.proofs.Math.Seq.{drop-append_seam}
use Rattle.std.proofs.lemmas.Bool.{eq-eqb}
use Rattle.std.proofs.lemmas.List.{append-nil, map-append, drop-append-le, take-append-drop}
use Rattle.std.proofs.lemmas.List.Elements.{All-nil, All-cons}
use Rattle.std.proofs.lemmas.Option.{none-some, same_Some, some_pair_parts, slice_get_within, slice_get-get_or, get_or_from_slice_get}
use Rattle.std.specs.List.{Contains, All, cons_option, range_with_len}
use Rattle.flow_terms.specs.declared.refusal.Refusal.{Refusal}
use Rattle.flow_terms.specs.declared.refusal.Refusal.TheVariants.{Spent, SubscribersFull}
use Rattle.flow_terms.specs.declared.ids.SubId.{SubId}
use Rattle.shared_core.specs.Flow.{cache_start, Parameters, State, Subscription, empty, contains, pending, pending_values, rest, values, values_at, cache, open_next, live_count, number, number_limit, capacity, drop_oldest}
use Rattle.shared_core.specs.Calls.{Call, subscribing, subscribe_with, Reply, to_subscribe, step, replies, after, cancelling, to_cancel}
use Rattle.shared_core.specs.Shown.{seen_of, live_from, rests_from, rest_of, Seen}
use Rattle.flow_terms.specs.Lists.{IsPrefix}
use Rattle.shared_core.specs.Story.{Interleaves, none, left, right, IsTold, told_count, received_values, GoesOn, Grows, given_to}
use Rattle.shared_core.specs.Headline.{Execution, execution_of, Moment, until, accepted, received, Opening, until_opened, cache_then_later, IsDropped, ReceivesPreludeCacheThenLater, Cancellation, EachReceivesPreludeCacheThenLater, LiveUntilCancelled, OfEveryExecution, EachLiveWasOpened, NothingAfterCancellation}
use Rattle.shared_core.proofs.Emissions.{accepted_is}
use Rattle.shared_core.proofs.Growing.{growth_law}
use Rattle.shared_core.proofs.Losing.{Once, Loses, lost_once, IsCancelled, live_until}
use Rattle.shared_core.proofs.Lists.{range_bounds, range-append, contains-Interleaves}
use Rattle.shared_core.proofs.Moments.{slice_get-seam, after-append, until_is, answered, ends_as, moment_at}
use Rattle.shared_core.proofs.Greeting.{rest-live}
use Rattle.shared_core.proofs.Pending.{position, pending-live, pending_values-live, length-pending, opened_with}
use Rattle.shared_core.proofs.Rests.{rest_of-shown}
use Rattle.shared_core.proofs.Sequence.{fixed_parameters}
use Rattle.shared_core.proofs.Sound.{sound-empty, sound-after, sound-open, all_at}
use Rattle.shared_core.proofs.Given.{received_law}
use Rattle.shared_core.proofs.Telling.{received_whole}
use Rattle.shared_core.proofs.Closing.{nothing_more, found_by_cancel}
use Rattle.shared_core.proofs.Opening.{Opens, opened_once}
use Rattle.shared_core.proofs.Walks.{after_over}

-- ---- lists

pub contains_at : {X : Type 0} (xs : List X) (k : ℕ) (x : X) → slice_get xs k ≡ Some x → Contains xs x
contains_at xs k x gets = (k, slice_get_within xs k x gets, get_or_from_slice_get xs k x x gets)

pub at_contains : {X : Type 0} (xs : List X) (x : X) → Contains xs x → (k : ℕ) × (slice_get xs k ≡ Some x)
at_contains xs x has = (has.0, slice_get-get_or xs has.0 x has.1 ∙ ap Some has.2)

slice_get-drop : {X : Type 0} (a : ℕ) (xs : List X) (i : ℕ) → a ≤ i → slice_get (drop a xs) (i - a) ≡ slice_get xs i
slice_get-drop zero xs i above = let same : i - 0 ≡ i = omega arith in ap (slice_get xs) same
slice_get-drop (suc a) [] i above = refl
slice_get-drop (suc a) (x ∷ xs) zero above = absurd (omega arith)
slice_get-drop (suc a) (x ∷ xs) (suc i) above =
    let same : suc i - suc a ≡ i - a = omega arith in
    ap (slice_get (drop a xs)) same ∙ slice_get-drop a xs i (omega arith)

-- indexes of a list, as indexes of what is left of it
pub values_at-drop : {T : Type 0} (a : ℕ) (xs : List T) (indexes : List ℕ) → ((i : ℕ) → contains indexes i ≡ true → a ≤ i) → values_at (drop a xs) (map (λ i. i - a) indexes) ≡ values_at xs indexes
values_at-drop a xs [] above = refl
values_at-drop a xs (i ∷ indexes) above =
    ap (λ o. cons_option o (values_at (drop a xs) (map (λ j. j - a) indexes))) (slice_get-drop a xs i (above i (ap (λ b. b || contains indexes i) (eq-eqb i i refl))))
    ∙ ap (cons_option (slice_get xs i)) (values_at-drop a xs indexes (λ j has. above j (ap (λ b. eqb j i || b) has ∙ or-true (eqb j i))))

lowered-range : (a b n : ℕ) → map (λ i. i - a) (range_with_len (a + b) n) ≡ range_with_len b n
lowered-range a b zero = refl
lowered-range a b (suc n) =
    let here : (a + b) - a ≡ b = omega arith in
    let next : (a + b) + 1 ≡ a + (b + 1) = omega arith in
    ap (λ i. i ∷ map (λ j. j - a) (range_with_len ((a + b) + 1) n)) here ∙ ap (λ m. b ∷ map (λ j. j - a) (range_with_len m n)) next ∙ ap (λ r. b ∷ r) (lowered-range a (b + 1) n)

Interleaves-map : (f : ℕ → ℕ) {xs ys zs : List ℕ} → Interleaves xs ys zs → Interleaves (map f xs) (map f ys) (map f zs)
Interleaves-map f none = none
Interleaves-map f (left x r) = left (f x) (Interleaves-map f r)
Interleaves-map f (right y r) = right (f y) (Interleaves-map f r)

Interleaves-left : (ws : List ℕ) → Interleaves ws [] ws
Interleaves-left [] = none
Interleaves-left (w ∷ ws) = left w (Interleaves-left ws)

Interleaves-append : {xs ys zs : List ℕ} (ws : List ℕ) → Interleaves xs ys zs → Interleaves (xs ++ ws) ys (zs ++ ws)
Interleaves-append ws none = Interleaves-left ws
Interleaves-append ws (left x r) = left x (Interleaves-append ws r)
Interleaves-append ws (right y r) = right y (Interleaves-append ws r)

-- ---- one subscription

-- what it received, what is pending for it and what it lost are its story
kept_whole : {T : Type 0} (total : ℕ) (s : Subscription T) → IsTold total s → s.live ≡ true → Interleaves (s.received ++ pending total s) s.lost (range_with_len s.start (total - s.start))
kept_whole total s told live =
    let rest = total - position s in
    let split : told_count s + rest ≡ total - s.start = omega (arith, told.within) in
    subst (λ ps. Interleaves (s.received ++ ps) s.lost (range_with_len s.start (total - s.start))) (sym (pending-live total s told live))
    (subst (λ zs. Interleaves (s.received ++ range_with_len (position s) rest) s.lost zs)
    (sym (range-append s.start (told_count s) rest) ∙ ap (range_with_len s.start) split)
    (Interleaves-append (range_with_len (position s) rest) told.together))

-- its story's indexes are from its start on
in_story : {xs ys : List ℕ} (a n : ℕ) → Interleaves xs ys (range_with_len a n) → (i : ℕ) → (contains xs i || contains ys i) ≡ true → a ≤ i
in_story a n whole i has = (range_bounds a n i (sym (contains-Interleaves i whole) ∙ has)).0

lowered_whole : {xs ys : List ℕ} (a n : ℕ) → Interleaves xs ys (range_with_len a n) → Interleaves (map (λ i. i - a) xs) (map (λ i. i - a) ys) (range_with_len 0 n)
lowered_whole {xs = xs} {ys = ys} a n whole =
    let same : a + 0 ≡ a = omega arith in
    subst (Interleaves (map (λ i. i - a) xs) (map (λ i. i - a) ys)) (ap (λ m. map (λ i. i - a) (range_with_len m n)) (sym same) ∙ lowered-range a 0 n) (Interleaves-map (λ i. i - a) whole)

-- what holds of each lost index, of these indexes lowered
All-lowered : (P : ℕ → Type 0) (f : ℕ → ℕ) (ns : List ℕ) → ((i : ℕ) → contains ns i ≡ true → P (f i)) → All P (map f ns)
All-lowered P f [] each = All-nil P
All-lowered P f (i ∷ ns) each =
    All-cons P (f i) (map f ns) (each i (ap (λ b. b || contains ns i) (eq-eqb i i refl))) (All-lowered P f ns (λ j has. each j (ap (λ b. eqb j i || b) has ∙ or-true (eqb j i))))

pub drop-drop : {X : Type 0} (a b : ℕ) (xs : List X) → drop b (drop a xs) ≡ drop (a + b) xs
drop-drop zero b xs = let same : b ≡ 0 + b = omega arith in ap (λ n. drop n xs) same
drop-drop (suc a) zero [] = let same : suc a + 0 ≡ suc a = omega arith in sym (ap (λ n. drop n []) same)
drop-drop (suc a) (suc b) [] = let same : suc a + suc b ≡ suc (a + suc b) = omega arith in sym (ap (λ n. drop n []) same)
drop-drop (suc a) b (x ∷ xs) = let same : suc (a + b) ≡ suc a + b = omega arith in drop-drop a b xs ∙ ap (λ n. drop n (x ∷ xs)) same

range_head : (a n i : ℕ) (rest : List ℕ) → range_with_len a n ≡ i ∷ rest → a ≡ i
range_head a zero i rest is = absurd (cc)
range_head a (suc n) i rest is = cc

none_contained : (ns : List ℕ) → ((i : ℕ) → contains ns i ≡ true → ⊥) → ns ≡ []
none_contained [] missing = refl
none_contained (i ∷ ns) missing = absurd (missing i (ap (λ b. b || contains ns i) (eq-eqb i i refl)))

module _ {T : Type 0} where
  shown_live : (accepted : List (ℕ × T)) (n : ℕ) (s : Subscription T) (rest : List (Subscription T)) → s.live ≡ true → live_from accepted n (s ∷ rest) ≡ (n, pending_values accepted s) ∷ live_from accepted (n + 1) rest
  shown_live accepted n s rest live = ap (λ b. cond b ((n, pending_values accepted s) ∷ live_from accepted (n + 1) rest) (live_from accepted (n + 1) rest)) live

  shown_closed : (accepted : List (ℕ × T)) (n : ℕ) (s : Subscription T) (rest : List (Subscription T)) → s.live ≡ false → live_from accepted n (s ∷ rest) ≡ live_from accepted (n + 1) rest
  shown_closed accepted n s rest closed = ap (λ b. cond b ((n, pending_values accepted s) ∷ live_from accepted (n + 1) rest) (live_from accepted (n + 1) rest)) closed

  -- a live subscription is among those that contracts see
  pub shown_at : (accepted : List (ℕ × T)) (n : ℕ) (subscriptions : List (Subscription T)) (k : ℕ) (s : Subscription T) → slice_get subscriptions k ≡ Some s → s.live ≡ true
      → (at : ℕ) × (slice_get (live_from accepted n subscriptions) at ≡ Some (n + k, pending_values accepted s))
  shown_at accepted n [] k s gets live = absurd (none-some _ gets)
  shown_at accepted n (x ∷ rest) zero s gets live =
      let same = same_Some x s gets in (
        0,
        ap (λ xs. slice_get xs 0) (shown_live accepted n x rest (ap (λ (u : Subscription T). u.live) same ∙ live))
            ∙ ap (λ u. Some (n, pending_values accepted u)) same ∙ ap (λ m. Some (m, pending_values accepted s)) (omega arith),
      )
  shown_at accepted n (x ∷ rest) (suc k) s gets live =
      let found = shown_at accepted (n + 1) rest k s gets live in
      let further : (n + 1) + k ≡ n + suc k = omega arith in
      let there = found.1 ∙ ap (λ m. Some (m, pending_values accepted s)) further in
      elim x.live as (λ b. x.live ≡ b → (at : ℕ) × (slice_get (live_from accepted n (x ∷ rest)) at ≡ Some (n + suc k, pending_values accepted s))) [
        | true ↦ λ lives. (suc found.0, ap (λ xs. slice_get xs (suc found.0)) (shown_live accepted n x rest lives) ∙ there)
        | false ↦ λ closed. (found.0, ap (λ xs. slice_get xs found.0) (shown_closed accepted n x rest closed) ∙ there)
      ] refl

  -- and of each that they see, the subscription
  pub record IsShown (accepted : List (ℕ × T)) (n : ℕ) (subscriptions : List (Subscription T)) (m : ℕ) (waits : List T) : Type 0 where
    pub k : ℕ
    pub s : Subscription T
    pub gets : slice_get subscriptions k ≡ Some s
    pub lives : s.live ≡ true
    pub numbered : m ≡ n + k
    pub shows : waits ≡ pending_values accepted s

  one_further : (accepted : List (ℕ × T)) (n : ℕ) (x : Subscription T) (rest : List (Subscription T)) (m : ℕ) (waits : List T) → IsShown accepted (n + 1) rest m waits → IsShown accepted n (x ∷ rest) m waits
  one_further accepted n x rest m waits e = record { k = suc e.k; s = e.s; gets = e.gets; lives = e.lives; numbered = omega (arith, e.numbered); shows = e.shows }

  pub shown_one : (accepted : List (ℕ × T)) (n : ℕ) (subscriptions : List (Subscription T)) (at m : ℕ) (waits : List T) → slice_get (live_from accepted n subscriptions) at ≡ Some (m, waits) → IsShown accepted n subscriptions m waits
  shown_one accepted n [] at m waits found = absurd (none-some _ found)
  shown_one accepted n (x ∷ rest) at m waits found =
      elim x.live as (λ b. x.live ≡ b → IsShown accepted n (x ∷ rest) m waits) [
        | true ↦ λ live. here at live (ap (λ xs. slice_get xs at) (sym (shown_live accepted n x rest live)) ∙ found) (λ j there. shown_one accepted (n + 1) rest j m waits there)
        | false ↦ λ closed. one_further accepted n x rest m waits (shown_one accepted (n + 1) rest at m waits (ap (λ xs. slice_get xs at) (sym (shown_closed accepted n x rest closed)) ∙ found))
      ] refl
    where
      here : (at : ℕ) → x.live ≡ true → slice_get ((n, pending_values accepted x) ∷ live_from accepted (n + 1) rest) at ≡ Some (m, waits)
          → ((j : ℕ) → slice_get (live_from accepted (n + 1) rest) j ≡ Some (m, waits) → IsShown accepted (n + 1) rest m waits) → IsShown accepted n (x ∷ rest) m waits
      here zero live there later =
          let parts = some_pair_parts n m (pending_values accepted x) waits there in
          record { k = 0; s = x; gets = refl; lives = live; numbered = omega (arith, parts.0); shows = sym parts.1 }
      here (suc j) live there later = one_further accepted n x rest m waits (later j there)

  opened_number : Reply T → ℕ
  opened_number (to_subscribe (Ok id)) = id.0
  opened_number _ = 0

  opened_as : (prelude : List T) (M : State T) (n : ℕ) → (step (subscribing prelude) M).0 ≡ to_subscribe (Ok (record { 0 = n })) → ((step (subscribing prelude) M).1 ≡ open_next prelude M) × (n ≡ number M (length M.subscriptions))
  unfolding subscribe_with opened_number
  opened_as prelude M n answered =
      let made : Result SubId Refusal × State T = (Ok (record { 0 = number M (length M.subscriptions) }), open_next prelude M) in
      let full : Result SubId Refusal × State T = (Err SubscribersFull, M) in
      let spent : Result SubId Refusal × State T = (Err Spent, M) in
      let asked : Reply T = to_subscribe (Ok (record { 0 = n })) in
      elim (number M (length M.subscriptions) == number_limit) as (λ b. to_subscribe (cond b spent (cond (live_count M == M.parameters.subscribers) full made)).0 ≡ asked → ((cond b spent (cond (live_count M == M.parameters.subscribers) full made)).1 ≡ open_next prelude M) × (n ≡ number M (length M.subscriptions))) [
        | true ↦ λ no. absurd (cc)
        | false ↦ elim (live_count M == M.parameters.subscribers) as (λ b. to_subscribe (cond b full made).0 ≡ asked → ((cond b full made).1 ≡ open_next prelude M) × (n ≡ number M (length M.subscriptions))) [
          | true ↦ λ no. absurd (cc)
          | false ↦ λ yes. (refl, sym (ap opened_number yes))
        ]
      ] answered

  module _ (p : Parameters) (calls : List (Call T)) (n : ℕ) (opening : Opening (execution_of p calls) n) where
    abbrev M : State T
    M = after opening.moment.before (empty p)

    abbrev N : State T
    N = after calls (empty p)

    abbrev k : ℕ
    k = length M.subscriptions

    opened : ((step (subscribing opening.prelude) M).1 ≡ open_next opening.prelude M) × (n ≡ number M k)
    opened = opened_as opening.prelude M n (answered p calls opening.moment)

    abbrev new : Subscription T
    new = opened_with opening.prelude (cache_start M)

    new_there : slice_get (open_next opening.prelude M).subscriptions k ≡ Some new
    new_there = slice_get-seam M.subscriptions new []

    N_is : N ≡ after opening.moment.later (open_next opening.prelude M)
    N_is = ends_as p calls opening.moment ∙ ap (after opening.moment.later) opened.0

    grown : Grows (open_next opening.prelude M) N
    grown = subst (Grows (open_next opening.prelude M)) (sym N_is) (growth_law T (open_next opening.prelude M) opening.moment.later)

    -- the subscription as it is at the end
    abbrev now : (later : Subscription T) × (slice_get N.subscriptions k ≡ Some later) × GoesOn new later
    now = grown.subscriptions k new new_there

    same_first : M.parameters.first ≡ N.parameters.first
    same_first = ap (λ (q : Parameters). q.first) (after_over fixed_parameters opening.moment.before (empty p) ∙ sym (after_over fixed_parameters calls (empty p)))

    -- the list of the subscription, at any later moment
    story_at : (later : Execution T) (all : List (ℕ × T)) → accepted later ≡ all → IsPrefix M.accepted all → cache_then_later (until_opened opening) later ≡ drop new.start (values all)
    unfolding seen_of
    story_at later all is begins =
        let before : accepted (until_opened opening) ≡ M.accepted = ap accepted (until_is p calls opening.moment) ∙ accepted_is p opening.moment.before in
        let parts : values all ≡ values M.accepted ++ values begins.0 = ap values begins.1 ∙ map-append (λ (e : ℕ × T). e.1) M.accepted begins.0 in
        let sound = sound-after opening.moment.before (empty {T = T} p) (sound-empty p) in
        let within : new.start ≤ length (values M.accepted) = omega (arith, sound.reset, length-map M.accepted (λ (e : ℕ × T). e.1)) in
        ap (λ (r : Execution T). r.seen.cache ++ drop (length (accepted (until_opened opening))) (values (accepted later))) (until_is p calls opening.moment)
        ∙ ap (λ xs. cache M ++ drop (length xs) (values (accepted later))) before
        ∙ ap (λ xs. cache M ++ drop (length M.accepted) (values xs)) is
        ∙ ap (λ i. cache M ++ drop i (values all)) (sym (length-map M.accepted (λ (e : ℕ × T). e.1)))
        ∙ ap (λ xs. cache M ++ drop (length (values M.accepted)) xs) parts
        ∙ ap (λ xs. cache M ++ xs) (drop-append_seam (values M.accepted) (values begins.0))
        ∙ sym (ap (drop new.start) parts ∙ drop-append-le new.start (values M.accepted) (values begins.0) within)

    story_is : cache_then_later (until_opened opening) (execution_of p calls) ≡ drop new.start (values N.accepted)
    story_is = story_at (execution_of p calls) N.accepted (accepted_is p calls) grown.accepted

    n_is : n ≡ N.parameters.first + k
    n_is = opened.1 ∙ ap (λ f. f + k) same_first

    -- a later call, in the whole execution
    module _ {P : State T → Call T → Reply T → Type 0} (once : Once opening.moment.later (open_next opening.prelude M) P) where
      abbrev K : State T
      K = after once.before (open_next opening.prelude M)

      abbrev before_it : List (Call T)
      before_it = opening.moment.before ++ subscribing opening.prelude ∷ once.before

      reached : after before_it (empty p) ≡ K
      reached = after-append opening.moment.before (subscribing opening.prelude ∷ once.before) (empty p) ∙ ap (after once.before) opened.0

      abbrev moment : Moment (execution_of p calls) once.call (step once.call K).0
      moment = moment_at p calls before_it once.call once.later K
          (opening.moment.called ∙ ap (λ cs. opening.moment.before ++ subscribing opening.prelude ∷ cs) once.called ∙ sym (append_assoc opening.moment.before (subscribing opening.prelude ∷ once.before) (once.call ∷ once.later)))
          reached

      seen_there : (until moment).seen ≡ seen_of K
      seen_there = ap (λ (r : Execution T). r.seen) (until_is p calls moment) ∙ ap seen_of reached

      same_parameters : K.parameters ≡ N.parameters
      same_parameters = ap (λ (L : State T). L.parameters) (sym reached) ∙ after_over fixed_parameters before_it (empty p) ∙ sym (after_over fixed_parameters calls (empty p))

    dropped_once : (i : ℕ) → contains now.0.lost i ≡ true → Once opening.moment.later (open_next opening.prelude M) (Loses k i)
    dropped_once i has =
        ⊎_elim
        (λ no. absurd (cc))
        (λ (once : Once opening.moment.later (open_next opening.prelude M) (Loses k i)). once)
        (lost_once opening.moment.later (open_next opening.prelude M) k new now.0 new_there (ap (λ (L : State T). slice_get L.subscriptions k) (sym N_is) ∙ now.1) i has)

    -- each lost value was the oldest one pending when an emission was accepted and all places were taken
    is_dropped : (i : ℕ) → contains now.0.lost i ≡ true → IsDropped (execution_of p calls) n opening (i - new.start)
    unfolding seen_of
    is_dropped i has =
        let once = dropped_once i has in
        let L = K once in
        let loses = once.holds in
        let s = loses.s in
        let all = values L.accepted in
        let told = all_at (IsTold (length L.accepted)) L.subscriptions k s (sound-after once.before (open_next opening.prelude M) (sound-open opening.prelude M (sound-after opening.moment.before (empty p) (sound-empty p)))).told loses.gets in
        let live = loses.drops.lives in
        let first = range_head (position s) (length L.accepted - position s) i loses.rest (sym (pending-live (length L.accepted) s told live) ∙ loses.oldest) in
        let grows = growth_law T (open_next opening.prelude M) once.before in
        let on = grows.subscriptions k new new_there in
        let begun : s.start ≡ new.start = ap (λ (u : Subscription T). u.start) (same_Some s on.0 (sym loses.gets ∙ on.1)) ∙ on.2.start in
        let shows = pending_values-live L.accepted s told live in
        let entry = shown_at L.accepted L.parameters.first L.subscriptions k s loses.gets live in
        let named : L.parameters.first + k ≡ n = ap (λ q. q.first + k) (same_parameters once) ∙ sym n_is in
        let index_is : position s ≡ new.start + (i - new.start) = omega (arith, first, begun) in
        record {
          call = once.call;
          reply = (step once.call L).0;
          accepts = loses.drops.accepts;
          moment = moment once;
          pending = pending_values L.accepted s;
          was_pending = subst (λ (seen : Seen T). Contains seen.live (n, pending_values L.accepted s)) (sym (seen_there once))
              (contains_at (live_from L.accepted L.parameters.first L.subscriptions) entry.0 (n, pending_values L.accepted s)
              (entry.1 ∙ ap (λ m. Some (m, pending_values L.accepted s)) named));
          was_full =
              ap length shows ∙ length-drop (position s) all ∙ ap (λ m. m - position s) (length-map L.accepted (λ (e : ℕ × T). e.1))
              ∙ sym (length-pending (length L.accepted) s told live) ∙ loses.drops.full ∙ ap capacity (same_parameters once);
          was_oldest =
              shows ∙ ap (λ m. drop m all) index_is ∙ sym (drop-drop new.start (i - new.start) all)
              ∙ ap (drop (i - new.start)) (sym (story_at (until (moment once)) L.accepted
              (ap accepted (until_is p calls (moment once)) ∙ accepted_is p (before_it once) ∙ ap (λ (S : State T). S.accepted) (reached once)) grows.accepted));
        }

    none_dropped : N.parameters.overflow ≢ drop_oldest → now.0.lost ≡ []
    none_dropped keeps = none_contained now.0.lost (λ i has.
        let once = dropped_once i has in keeps (ap (λ q. q.overflow) (sym (same_parameters once)) ∙ once.holds.drops.policy))

    receives : (pending : List T) → Contains (execution_of p calls).seen.live (n, pending) → ReceivesPreludeCacheThenLater (execution_of p calls) n opening pending
    unfolding seen_of
    receives waits has =
        let t = now.0 in
        let low = λ (i : ℕ). i - new.start in
        let all = values N.accepted in
        let total = length N.accepted in
        let found = at_contains (live_from N.accepted N.parameters.first N.subscriptions) (n, waits) has in
        let e = shown_one N.accepted N.parameters.first N.subscriptions found.0 n waits found.1 in
        let numbered = e.numbered in
        let same_index : e.k ≡ k = omega (arith, n_is) in
        let same_one : e.s ≡ t = same_Some e.s t (sym e.gets ∙ ap (slice_get N.subscriptions) same_index ∙ now.1) in
        let live : t.live ≡ true = ap (λ (u : Subscription T). u.live) (sym same_one) ∙ e.lives in
        let told = all_at (IsTold total) N.subscriptions k t (sound-after calls (empty p) (sound-empty p)).told now.1 in
        let kept = t.received ++ pending total t in
        let whole : Interleaves kept t.lost (range_with_len new.start (total - new.start)) =
        subst (λ a. Interleaves kept t.lost (range_with_len a (total - a))) now.2.start (kept_whole total t told live) in
        let first : p.first + k ≡ n = ap (λ (q : Parameters). q.first + k) (sym (after_over fixed_parameters calls (empty p))) ∙ sym n_is in
        let count : length (cache_then_later (until_opened opening) (execution_of p calls)) ≡ total - new.start =
        ap length story_is ∙ length-drop new.start all ∙ ap (λ m. m - new.start) (length-map N.accepted (λ (x : ℕ × T). x.1)) in
        let had : received n (execution_of p calls) ≡ received_values N.accepted t =
        ap (λ m. given_to m calls (replies calls (empty p))) (sym first) ∙ sym (received_law T p calls k t now.1) in
        let left : rest_of n (rests_from N.parameters.first N.subscriptions) ≡ rest t =
        ap (λ m. rest_of m (rests_from N.parameters.first N.subscriptions)) n_is ∙ rest_of-shown N.parameters.first k N.subscriptions t now.1 in
        let handed : t.prelude ≡ opening.prelude = now.2.prelude in
        record {
          kept = map low kept;
          dropped = map low t.lost;
          received_then_pending_is_prelude_cache_then_later =
              ap (λ xs. xs ++ (rest_of n (rests_from N.parameters.first N.subscriptions) ++ waits)) had
              ∙ ap (λ vs. received_values N.accepted t ++ (vs ++ waits)) left
              ∙ ap (λ xs. received_values N.accepted t ++ (rest t ++ xs)) (e.shows ∙ ap (pending_values N.accepted) same_one)
              ∙ received_whole N.accepted t told live
              ∙ ap (λ xs. xs ++ values_at all kept) handed
              ∙ ap (λ xs. opening.prelude ++ xs)
              (sym (values_at-drop new.start all kept (λ i h. in_story new.start (total - new.start) whole i (ap (λ b. b || contains t.lost i) h)))
              ∙ ap (λ xs. values_at xs (map low kept)) (sym story_is));
          prelude_comes_first =
              ⊎_elim
              (λ (wholly : drop t.given t.prelude ≡ []). inl (left ∙ rest-live t live ∙ wholly))
              (λ (fresh : t.received ≡ []). inr (
              ap (λ xs. xs ++ rest_of n (rests_from N.parameters.first N.subscriptions)) had
              ∙ ap (λ vs. received_values N.accepted t ++ vs) (left ∙ rest-live t live)
              ∙ ap (λ is. (take t.given t.prelude ++ values_at all is) ++ drop t.given t.prelude) fresh
              ∙ ap (λ xs. xs ++ drop t.given t.prelude) (append-nil (take t.given t.prelude))
              ∙ take-append-drop t.given t.prelude ∙ handed
              ))
              told.prelude_first;
          in_order_and_once = subst (λ m. Interleaves (map low kept) (map low t.lost) (range_with_len 0 m)) (sym count) (lowered_whole new.start (total - new.start) whole);
          in_order_of_acceptance = (
            take new.start all,
            ap values (accepted_is p calls) ∙ sym (take-append-drop new.start all) ∙ ap (λ xs. take new.start all ++ xs) (sym story_is),
          );
          only_drop_oldest_drops = λ keeps. ap (map low) (none_dropped keeps);
          only_the_oldest_when_full = All-lowered (IsDropped (execution_of p calls) n opening) low t.lost is_dropped;
        }

    lasts : ((pending : List T) × Contains (execution_of p calls).seen.live (n, pending)) ⊎ Cancellation (execution_of p calls) n
    unfolding seen_of
    lasts =
        ⊎_elim
        (λ (lives : (t : Subscription T) × (slice_get (after opening.moment.later (open_next opening.prelude M)).subscriptions k ≡ Some t) × (t.live ≡ true)).
        let entry = shown_at N.accepted N.parameters.first N.subscriptions k lives.0 (ap (λ (L : State T). slice_get L.subscriptions k) N_is ∙ lives.1) lives.2 in
        inl (
          pending_values N.accepted lives.0,
          contains_at (live_from N.accepted N.parameters.first N.subscriptions) entry.0 (n, pending_values N.accepted lives.0) (entry.1 ∙ ap (λ m. Some (m, pending_values N.accepted lives.0)) (sym n_is)),
        ))
        (λ (once : Once opening.moment.later (open_next opening.prelude M) (IsCancelled k)).
        let named : number (K once) k ≡ n = ap (λ q. q.first + k) (same_parameters once) ∙ sym n_is in
        inr (subst (λ call. Moment (execution_of p calls) call (to_cancel true)) (once.holds.0 ∙ ap (λ m. cancelling m) named)
        (subst (Moment (execution_of p calls) once.call) once.holds.1 (moment once))))
        (live_until opening.moment.later (open_next opening.prelude M) k new new_there refl)

pub each_receives_prelude_cache_then_later : (T : Type 0) → OfEveryExecution T EachReceivesPreludeCacheThenLater
each_receives_prelude_cache_then_later T p calls n opening pending has = receives p calls n opening pending has

pub live_until_cancelled : (T : Type 0) → OfEveryExecution T LiveUntilCancelled
live_until_cancelled T p calls n opening = lasts p calls n opening

module _ {T : Type 0} (p : Parameters) (calls : List (Call T)) where
  was_opened : (n : ℕ) (waits : List T) → Contains (execution_of p calls).seen.live (n, waits) → Opening (execution_of p calls) n
  unfolding seen_of
  was_opened n waits has =
      let N = after calls (empty p) in
      let found = at_contains (live_from N.accepted N.parameters.first N.subscriptions) (n, waits) has in
      let e = shown_one N.accepted N.parameters.first N.subscriptions found.0 n waits found.1 in
      let asked : ℕ → Reply T = λ m. to_subscribe (Ok (record { 0 = m })) in
      ⊎_elim
      (λ (no : e.k < 0). absurd (omega arith))
      (λ (once : Once calls (empty p) (Opens e.k)).
      let L = after once.before (empty p) in
      let named : number L e.k ≡ n =
      ap (λ (q : Parameters). q.first + e.k) (after_over fixed_parameters once.before (empty p) ∙ sym (after_over fixed_parameters calls (empty p))) ∙ sym e.numbered in
      record {
        prelude = once.holds.0;
        moment =
            subst (λ call. Moment (execution_of p calls) call (asked n)) once.holds.1
            (subst (Moment (execution_of p calls) once.call) (once.holds.2 ∙ ap asked named) (moment_at p calls once.before once.call once.later L once.called refl));
      })
      (opened_once calls (empty p) e.k (slice_get_within N.subscriptions e.k e.s e.gets))

  was_live : (n : ℕ) (end : Cancellation (execution_of p calls) n) → (pending : List T) × Contains (until end).seen.live (n, pending)
  unfolding seen_of
  was_live n end =
      let M = after end.before (empty p) in
      let cancelled = found_by_cancel n M (answered p calls end) in
      let found = cancelled.2 in
      let waits = pending_values M.accepted cancelled.1 in
      let entry = shown_at M.accepted M.parameters.first M.subscriptions cancelled.0 cancelled.1 found.gets found.lives in (
        waits,
        subst (λ (execution : Execution T). Contains execution.seen.live (n, waits)) (sym (until_is p calls end))
            (contains_at (live_from M.accepted M.parameters.first M.subscriptions) entry.0 (n, waits) (entry.1 ∙ ap (λ m. Some (m, waits)) (sym found.named))),
      )

pub each_live_was_opened : (T : Type 0) → OfEveryExecution T EachLiveWasOpened
each_live_was_opened T p calls n pending has = was_opened p calls n pending has

-- an execution up to a moment is an execution, of which all this holds
pub nothing_after_cancellation : (T : Type 0) → OfEveryExecution T NothingAfterCancellation
nothing_after_cancellation T p calls n end =
    let more = nothing_more T p calls n end in
    let lived = was_live p calls n end in
    let is = until_is p calls end in
    let opening : Opening (until end) n =
    subst (λ (execution : Execution T). Opening execution n) (sym is) (was_opened p end.before n lived.0 (subst (λ (execution : Execution T). Contains execution.seen.live (n, lived.0)) is lived.1)) in
    let before : EachReceivesPreludeCacheThenLater (until end) = subst EachReceivesPreludeCacheThenLater (sym is) (each_receives_prelude_cache_then_later T p end.before) in
    let would = before n opening lived.0 lived.1 in
    record {
      was_live = lived;
      was_opened = opening;
      would_have_received = would;
      begins_what_it_would_have_received = (
        rest_of n (until end).seen.rests ++ lived.0,
        sym would.received_then_pending_is_prelude_cache_then_later ∙ ap (λ xs. xs ++ (rest_of n (until end).seen.rests ++ lived.0)) (sym more.1),
      );
      has_what_it_had = more.1;
      closed = more.0;
    }
