-- What each subscription receives in every execution of calls on a new flow: told by the calls, the replies to them, and what
-- contracts see.
use Rattle.std.specs.Prelude.{◌≡◌, ◌≢◌, ℕ, ◌+◌, ◌-◌, ◌<◌, ◌≤◌, ◌⊎◌, Bool, true, false, List, [], ◌∷◌}
use Rattle.std.specs.Prelude.{◌++◌, length, take, drop, Option, None, Some, Ok, IsSome, slice_get}
use Rattle.std.specs.List.{filter_map, list_any, range_with_len, Contains, All}
use Rattle.flow_terms.specs.declared.answers.Tried.TheVariants as tried
use Rattle.flow_terms.specs.declared.answers.Begun.TheVariants as begun
use Rattle.flow_terms.specs.declared.answers.Next.TheVariants.{Closed}
use Rattle.shared_core.specs.Flow.{Parameters, suspend, drop_oldest, capacity, places, empty, values, values_at}
use Rattle.shared_core.specs.Calls.{Call, trying, starting, subscribing, receiving, cancelling, resetting, Reply, to_try}
use Rattle.shared_core.specs.Calls.{to_start, to_subscribe, to_receive, to_cancel, to_reset, replies, after}
use Rattle.shared_core.specs.Shown.{Seen, seen_of, rest_of}
use Rattle.flow_terms.specs.Lists.{IsPrefix}
use Rattle.shared_core.specs.Story.{Interleaves, given_to, emitted, if_waiting, by_emitter}

-- an execution of calls: those made on a new flow, the replies to them, and what contracts see afterwards
pub record Execution (T : Type 0) : Type 0 where
  pub calls : List (Call T)
  pub replies : List (Reply T)
  pub seen : Seen T

-- the execution of these calls on a flow made with these parameters
abbrev pub execution_of : {T : Type 0} → Parameters → List (Call T) → Execution T
execution_of p calls = record { calls = calls; replies = replies calls (empty p); seen = seen_of (after calls (empty p)) }

-- A moment of an execution: a call and its reply, between the calls before it and those after it.
pub record Moment {T : Type 0} (execution : Execution T) (call : Call T) (reply : Reply T) : Type 0 where
  pub before : List (Call T)
  pub later : List (Call T)
  pub called : execution.calls ≡ before ++ call ∷ later
  pub replied : slice_get execution.replies (length before) ≡ Some reply

-- the execution up to the moment
abbrev pub until : {T : Type 0} {execution : Execution T} {call : Call T} {reply : Reply T} → Moment execution call reply → Execution T
until {execution = execution} moment = execution_of execution.seen.parameters moment.before

-- ---- emissions

-- the emissions that wait, each with its emitter
abbrev pub waiting : {T : Type 0} → Execution T → List (ℕ × T)
waiting execution = filter_map (λ ticket. if_waiting ticket.1) execution.seen.out

-- the emissions that were accepted, each with its emitter: as many of those emitted as have a number
abbrev pub accepted : {T : Type 0} → Execution T → List (ℕ × T)
accepted execution = take (execution.seen.next_number - execution.seen.parameters.first) (emitted execution.calls execution.replies)

-- What was accepted, and then what waits, is what was emitted, in the order of the calls; so it is for each emitter.
pub record EachEmitterInItsOwnOrder {T : Type 0} (execution : Execution T) : Type 0 where
  pub all : accepted execution ++ waiting execution ≡ emitted execution.calls execution.replies
  pub of_each : (emitter : ℕ)
      → by_emitter emitter (accepted execution) ++ by_emitter emitter (waiting execution) ≡ by_emitter emitter (emitted execution.calls execution.replies)

-- the number, the emitter and the value of an emission that was accepted at once
abbrev pub acceptance : {T : Type 0} → Call T → Reply T → Option (ℕ × (ℕ × T))
acceptance (trying emitter v) (to_try (Ok (tried.Accepted number))) = Some (number, (emitter, v))
acceptance (starting emitter v) (to_start (Ok (begun.Accepted number))) = Some (number, (emitter, v))
acceptance _ _ = None

-- a reply's number counts, from the first number on, the emissions accepted before
abbrev pub NumbersCountWhatWasAccepted : {T : Type 0} → Execution T → Type 0
NumbersCountWhatWasAccepted {T} execution =
    (call : Call T) (reply : Reply T) (number : ℕ) (emission : ℕ × T) → acceptance call reply ≡ Some (number, emission) → Moment execution call reply
    → (index : ℕ) × (number ≡ execution.seen.parameters.first + index) × (slice_get (accepted execution) index ≡ Some emission)

-- ---- subscriptions

-- the moment when the subscription with this number was opened, and the prelude that it was handed
pub record Opening {T : Type 0} (execution : Execution T) (n : ℕ) : Type 0 where
  pub prelude : List T
  pub moment : Moment execution (subscribing prelude) (to_subscribe (Ok (record { 0 = n })))

-- the execution up to its opening
abbrev pub until_opened : {T : Type 0} {execution : Execution T} {n : ℕ} → Opening execution n → Execution T
until_opened opening = until opening.moment

-- the moment when it was cancelled
abbrev pub Cancellation : {T : Type 0} → Execution T → ℕ → Type 0
Cancellation execution n = Moment execution (cancelling n) (to_cancel true)

-- the values that the replies to its `next` gave
abbrev pub received : {T : Type 0} → ℕ → Execution T → List T
received n execution = given_to n execution.calls execution.replies

-- the replay cache as it stood at the start, followed by all values accepted from then until now
abbrev pub cache_then_later : {T : Type 0} → Execution T → Execution T → List T
cache_then_later start now = start.seen.cache ++ drop (length (accepted start)) (values (accepted now))

-- the list ends so
abbrev pub EndsWith : {X : Type 0} → List X → List X → Type 0
EndsWith {X} back xs = (front : List X) × (xs ≡ front ++ back)

-- How a subscription lost the value at this index of its list: an emission was accepted while all places of the subscription
-- were taken, and the value was the oldest of those pending for it.
pub record IsDropped {T : Type 0} (execution : Execution T) (n : ℕ) (opening : Opening execution n) (index : ℕ) : Type 0 where
  pub call : Call T
  pub reply : Reply T
  pub accepts : IsSome (acceptance call reply)
  pub moment : Moment execution call reply
  pub pending : List T
  pub was_pending : Contains (until moment).seen.live (n, pending)
  pub was_full : length pending ≡ capacity execution.seen.parameters
  pub was_oldest : pending ≡ drop index (cache_then_later (until_opened opening) (until moment))

-- What a live subscription received, then what is pending for it, is its prelude, the replay cache at its start and all
-- later accepted values, less those that its policy dropped. `kept` and `dropped` are indexes of the list of the latter two;
-- of the prelude none is dropped.
pub record ReceivesPreludeCacheThenLater {T : Type 0} (execution : Execution T) (n : ℕ) (opening : Opening execution n) (pending : List T) : Type 0 where
  pub kept : List ℕ
  pub dropped : List ℕ
  pub received_then_pending_is_prelude_cache_then_later : received n execution ++ (rest_of n execution.seen.rests ++ pending)
      ≡ opening.prelude ++ values_at (cache_then_later (until_opened opening) execution) kept
  -- while some of the prelude is left, nothing else was received
  pub prelude_comes_first : (rest_of n execution.seen.rests ≡ []) ⊎ (received n execution ++ rest_of n execution.seen.rests ≡ opening.prelude)
  -- both rise, and together they are all indexes, each once
  pub in_order_and_once : Interleaves kept dropped (range_with_len 0 (length (cache_then_later (until_opened opening) execution)))
  pub in_order_of_acceptance : EndsWith (cache_then_later (until_opened opening) execution) (values (accepted execution))
  pub only_drop_oldest_drops : execution.seen.parameters.overflow ≢ drop_oldest → dropped ≡ []
  pub only_the_oldest_when_full : All (IsDropped execution n opening) dropped

abbrev pub EachReceivesPreludeCacheThenLater : {T : Type 0} → Execution T → Type 0
EachReceivesPreludeCacheThenLater {T} execution =
    (n : ℕ) (opening : Opening execution n) (pending : List T) → Contains execution.seen.live (n, pending) → ReceivesPreludeCacheThenLater execution n opening pending

-- each live subscription was opened by one of the calls
abbrev pub EachLiveWasOpened : {T : Type 0} → Execution T → Type 0
EachLiveWasOpened {T} execution = (n : ℕ) (pending : List T) → Contains execution.seen.live (n, pending) → Opening execution n

-- a subscription that was opened is live, or was cancelled
abbrev pub LiveUntilCancelled : {T : Type 0} → Execution T → Type 0
LiveUntilCancelled {T} execution =
    (n : ℕ) (opening : Opening execution n) → ((pending : List T) × Contains execution.seen.live (n, pending)) ⊎ Cancellation execution n

-- from the call with this index on, each `next` of this number is answered with `Closed`
abbrev pub IsClosedFrom : {T : Type 0} → ℕ → ℕ → Execution T → Type 0
IsClosedFrom from n execution =
    (index : ℕ) → from ≤ index → slice_get execution.calls index ≡ Some (receiving n) → slice_get execution.replies index ≡ Some (to_receive Closed)

-- Until it was cancelled a subscription was live. It has what it received before, which begins what it would have received,
-- and each later `next` is `Closed`.
pub record ReceivesNoMore {T : Type 0} (execution : Execution T) (n : ℕ) (end : Cancellation execution n) : Type 0 where
  pub was_live : (pending : List T) × Contains (until end).seen.live (n, pending)
  pub was_opened : Opening (until end) n
  -- what was pending at the cancellation is given up
  pub would_have_received : ReceivesPreludeCacheThenLater (until end) n was_opened was_live.0
  pub begins_what_it_would_have_received : IsPrefix (received n execution)
      (was_opened.prelude ++ values_at (cache_then_later (until_opened was_opened) (until end)) would_have_received.kept)
  pub has_what_it_had : received n execution ≡ received n (until end)
  pub closed : IsClosedFrom (length end.before) n execution

abbrev pub NothingAfterCancellation : {T : Type 0} → Execution T → Type 0
NothingAfterCancellation execution = (n : ℕ) (end : Cancellation execution n) → ReceivesNoMore execution n end

-- a number that no subscription has receives nothing
abbrev pub NothingWithoutOpening : {T : Type 0} → Execution T → Type 0
NothingWithoutOpening execution =
    (n : ℕ) → (n < execution.seen.parameters.first) ⊎ (execution.seen.parameters.first + execution.seen.subscriptions ≤ n)
    → IsClosedFrom 0 n execution × (received n execution ≡ [])

-- ---- room

-- a live subscription has no more pending than it has places
abbrev pub AtMostItsPlacesPending : {T : Type 0} → Execution T → Type 0
AtMostItsPlacesPending {T} execution = (n : ℕ) (pending : List T) → Contains execution.seen.live (n, pending) → length pending ≤ places execution.seen.parameters

-- While an emission waits some subscription has all its places taken; and none waits where the policy drops.
pub record WaitsForRoom {T : Type 0} (execution : Execution T) : Type 0 where
  pub all_places_taken : (n : ℕ) × (pending : List T) × Contains execution.seen.live (n, pending) × (length pending ≡ places execution.seen.parameters)
  pub waits_for_places : (capacity execution.seen.parameters ≡ 0) ⊎ (execution.seen.parameters.overflow ≡ suspend)

abbrev pub NoneWaitsBesideRoom : {T : Type 0} → Execution T → Type 0
NoneWaitsBesideRoom execution = waiting execution ≢ [] → WaitsForRoom execution

-- ---- the replay cache

-- the last n values, or all where there are fewer
abbrev pub latest : {X : Type 0} → ℕ → List X → List X
latest n xs = drop (length xs - n) xs

abbrev pub is_reset : {T : Type 0} → Call T → Bool
is_reset resetting = true
is_reset _ = false

-- The replay cache has the latest values that were accepted since it was last reset, as many as it may hold.
pub record CachesTheLatest {T : Type 0} (execution : Execution T) : Type 0 where
  pub never_reset : list_any is_reset execution.calls ≡ false → execution.seen.cache ≡ latest execution.seen.parameters.replay (values (accepted execution))
  pub since_last_reset : (reset : Moment execution resetting to_reset) → list_any is_reset reset.later ≡ false
      → execution.seen.cache ≡ latest execution.seen.parameters.replay (drop (length (accepted (until reset))) (values (accepted execution)))

-- ---- the whole

pub record Headline {T : Type 0} (execution : Execution T) : Type 0 where
  pub each_receives_prelude_cache_then_later : EachReceivesPreludeCacheThenLater execution
  pub each_emitter_in_its_own_order : EachEmitterInItsOwnOrder execution
  pub numbers_count_what_was_accepted : NumbersCountWhatWasAccepted execution
  pub each_live_was_opened : EachLiveWasOpened execution
  pub live_until_cancelled : LiveUntilCancelled execution
  pub nothing_after_cancellation : NothingAfterCancellation execution
  pub nothing_without_opening : NothingWithoutOpening execution
  pub at_most_its_places_pending : AtMostItsPlacesPending execution
  pub none_waits_beside_room : NoneWaitsBesideRoom execution
  pub caches_the_latest : CachesTheLatest execution

-- what holds of every execution
abbrev pub OfEveryExecution : (T : Type 0) → (Execution T → Type 0) → Type 0
OfEveryExecution T part = (p : Parameters) (calls : List (Call T)) → part (execution_of p calls)
