-- What a subscription received and lost, over any list of calls.
use Rattle.std.specs.Prelude.{◌≡◌, ℕ, ◌+◌, ◌-◌, ◌≤◌, ◌⊎◌, Bool, false, not, ◌||◌, ◌==◌, if◌then◌else◌, List}
use Rattle.std.specs.Prelude.{[], ◌∷◌, ◌++◌, length, take, drop, Option, Some, None, Ok, slice_get, IsTrue}
use Rattle.std.specs.List.{AllByRecursion, filter, filter_map, range_with_len}
use Rattle.shared_core.specs.Flow.{State, Standing, waits, stands, gone, Subscription, Parameters, contains}
use Rattle.shared_core.specs.Flow.{empty, rest, pending, pending_values, values, values_at, cache, open_next}
use Rattle.flow_terms.specs.Lists.{IsPrefix}
use Rattle.flow_terms.specs.declared.answers.Next.TheVariants.{Value}
use Rattle.flow_terms.specs.declared.answers.Withdrawn.TheVariants.{Removed}
use Rattle.flow_terms.specs.declared.answers.Tried.TheVariants as tried
use Rattle.flow_terms.specs.declared.answers.Begun.TheVariants as begun
use Rattle.shared_core.specs.Calls.{Call, Reply, trying, starting, withdrawing, receiving, to_try, to_start, to_withdraw, to_receive, after, replies}

-- the two lists, each in its order, make up the third
pub data Interleaves {X : Type 0} : List X → List X → List X → Type 0 where
  none : Interleaves [] [] []
  left : (x : X) {xs ys zs : List X} → Interleaves xs ys zs → Interleaves (x ∷ xs) ys (x ∷ zs)
  right : (y : X) {xs ys zs : List X} → Interleaves xs ys zs → Interleaves xs (y ∷ ys) (y ∷ zs)

-- how many indexes a subscription received or lost
abbrev pub told_count : {T : Type 0} → Subscription T → ℕ
told_count s = length s.received + length s.lost

-- The indexes that a subscription received and those that it lost are together its start and the indexes after it, each
-- once and each list rising, and all of them were accepted. It received none of them while some of its prelude was left.
pub record IsTold {T : Type 0} (total : ℕ) (s : Subscription T) : Type 0 where
  pub together : Interleaves s.received s.lost (range_with_len s.start (told_count s))
  pub within : s.start + told_count s ≤ total
  pub prelude_first : (drop s.given s.prelude ≡ []) ⊎ (s.received ≡ [])

-- the indexes of a subscription's story: all emissions from its start on
abbrev pub story : {T : Type 0} → ℕ → Subscription T → List ℕ
story total s = range_with_len s.start (total - s.start)

-- those of the indexes that aren't lost
abbrev pub without : List ℕ → List ℕ → List ℕ
without lost indexes = filter (λ i. not (contains lost i)) indexes

-- the values that a subscription received: those given of its prelude, and then those at the indexes that it received
abbrev pub received_values : {T : Type 0} → List (ℕ × T) → Subscription T → List T
received_values accepted s = take s.given s.prelude ++ values_at (values accepted) s.received

-- What a subscription received and lost is the beginning of its story, each index once and each list rising. While it is
-- live, what it received, then what is left of its prelude, and then what is pending is its prelude and its story without
-- what it lost.
pub record HasStory {T : Type 0} (M : State T) (s : Subscription T) : Type 0 where
  pub told : IsTold (length M.accepted) s
  pub in_order : IsTrue s.live → s.received ++ pending (length M.accepted) s ≡ without s.lost (story (length M.accepted) s)
  pub as_values : IsTrue s.live
      → received_values M.accepted s ++ (rest s ++ pending_values M.accepted s)
      ≡ s.prelude ++ values_at (values M.accepted) (without s.lost (story (length M.accepted) s))

-- whatever calls are made, each subscription has its story
abbrev pub StoryLaw : (T : Type 0) → Type 0
StoryLaw T = (p : Parameters) (calls : List (Call T)) → let M = after calls (empty p) in AllByRecursion (HasStory M) M.subscriptions

-- A subscription later on: its prelude and its start are the same, what it received and lost comes first, and once closed it
-- stays as it was.
pub record GoesOn {T : Type 0} (s later : Subscription T) : Type 0 where
  pub prelude : later.prelude ≡ s.prelude
  pub given : s.given ≤ later.given
  pub start : later.start ≡ s.start
  pub received : IsPrefix s.received later.received
  pub lost : IsPrefix s.lost later.lost
  pub closed : s.live ≡ false → later ≡ s

-- no acceptance is taken back, and each subscription goes on
pub record Grows {T : Type 0} (M N : State T) : Type 0 where
  pub accepted : IsPrefix M.accepted N.accepted
  pub subscriptions : (k : ℕ) (s : Subscription T) → slice_get M.subscriptions k ≡ Some s
      → (later : Subscription T) × (slice_get N.subscriptions k ≡ Some later) × GoesOn s later

-- the story of a subscription is its prelude, then the replay cache as it stood when it was opened, and then each value
-- accepted later
abbrev pub BeginsWithPrelude : {T : Type 0} → List T → State T → State T → Type 0
BeginsWithPrelude {T} prelude M N =
    (s : Subscription T) × (slice_get N.subscriptions (length M.subscriptions) ≡ Some s) × (s.prelude ≡ prelude)
    × ((more : List (ℕ × T)) × (N.accepted ≡ M.accepted ++ more) × (drop s.start (values N.accepted) ≡ cache M ++ values more))

abbrev pub GrowthLaw : (T : Type 0) → Type 0
GrowthLaw T = (M : State T) (calls : List (Call T)) → Grows M (after calls M)

abbrev pub CacheLaw : (T : Type 0) → Type 0
CacheLaw T =
    (p : Parameters) (prelude : List T) (calls later : List (Call T)) → let M = after calls (empty p) in
    BeginsWithPrelude prelude M (after later (open_next prelude M))

-- the values that the replies to `next` of this subscription gave
abbrev pub given_to : {T : Type 0} → ℕ → List (Call T) → List (Reply T) → List T
given_to n (receiving m ∷ calls) (to_receive (Value v) ∷ replies) = if m == n then v ∷ given_to n calls replies else given_to n calls replies
given_to n (_ ∷ calls) (_ ∷ replies) = given_to n calls replies
given_to n _ _ = []

-- what each subscription received are the values that it was given
abbrev pub ReceivedLaw : (T : Type 0) → Type 0
ReceivedLaw T =
    (p : Parameters) (calls : List (Call T)) (k : ℕ) (s : Subscription T) → let M = after calls (empty p) in slice_get M.subscriptions k ≡ Some s
    → received_values M.accepted s ≡ given_to (p.first + k) calls (replies calls (empty p))

-- whether some later reply says that the emission with this ticket was removed while it waited
abbrev pub is_removed : {T : Type 0} → ℕ → List (Call T) → List (Reply T) → Bool
is_removed k (withdrawing n ∷ calls) (to_withdraw Removed ∷ replies) = n == k || is_removed k calls replies
is_removed k (_ ∷ calls) (_ ∷ replies) = is_removed k calls replies
is_removed k _ _ = false

-- the emissions in the order of the calls that began them, without those that were full, dropped, refused or removed
abbrev pub emitted : {T : Type 0} → List (Call T) → List (Reply T) → List (ℕ × T)
emitted (trying emitter v ∷ calls) (to_try (Ok (tried.Accepted n)) ∷ replies) = (emitter, v) ∷ emitted calls replies
emitted (starting emitter v ∷ calls) (to_start (Ok (begun.Accepted n)) ∷ replies) = (emitter, v) ∷ emitted calls replies
emitted (starting emitter v ∷ calls) (to_start (Ok (begun.Waiting ticket)) ∷ replies) =
    if is_removed ticket.0 calls replies then emitted calls replies else (emitter, v) ∷ emitted calls replies
emitted (_ ∷ calls) (_ ∷ replies) = emitted calls replies
emitted _ _ = []

abbrev pub if_waiting : {T : Type 0} → Standing T → Option (ℕ × T)
if_waiting (waits emitter v) = Some (emitter, v)
if_waiting (stands i) = None
if_waiting gone = None

abbrev pub by_emitter : {T : Type 0} → ℕ → List (ℕ × T) → List (ℕ × T)
by_emitter e emissions = filter (λ x. x.0 == e) emissions

-- what was accepted, and then what waits, is what was emitted; so it is for each emitter
abbrev pub OrderLaw : (T : Type 0) → Type 0
OrderLaw T =
    (p : Parameters) (calls : List (Call T)) → let M = after calls (empty p) in
    (M.accepted ++ filter_map if_waiting M.tickets ≡ emitted calls (replies calls (empty p)))
    × ((e : ℕ) → by_emitter e M.accepted ++ by_emitter e (filter_map if_waiting M.tickets) ≡ by_emitter e (emitted calls (replies calls (empty p))))
