-- What a subscription has received, in its caller's words, and what that has to do with the flow.
use Rattle.std.specs.Prelude.{◌≡◌, ◌⊎◌, ℕ, ◌-◌, ◌<◌, ◌≤◌, max, false, List, [], ◌++◌, length, map}
use Rattle.std.specs.List.{AllByRecursion, range_with_len}
use Rattle.shared_lane.specs.Law.{lost, received as received_at}
use Rattle.shared_core.specs.Flow.{values_at}
use Rattle.shared_core.specs.Preludes.{RestSeen}
use Rattle.shared_core.specs.Story.{Interleaves}
use Rattle.shared_lane.specs.Headline.{pending}
use Rattle.shared_lane.specs.Readers.{IsSameReader}
use Rattle.shared_lane.specs.Views.{ReaderSeen}
use Rattle.shared_lane.specs.declared.reader.Met.{Met}
use Rattle.shared_flow.specs.Parties.{Subscribed, since_start, words_received, received}

-- What a reader knows of what it received: it began at an emission of its flow; it has seen each emission that it received; and where the
-- policy drops nothing it lost none.
pub record KnowsReceived (r : ReaderSeen) : Type 0 where
  pub begins : r.shape.first ≤ r.start
  pub began : r.start - r.shape.first ≤ length r.seen
  pub sees : AllByRecursion (λ index. index < length (since_start r)) (received_at 0 r.story)
  pub keeps : r.shape.drops ≡ false → lost 0 r.story ≡ []

-- a subscription receives nothing of the flow while some of its prelude is left
abbrev pub PreludeFirst : {T : Type 0} → RestSeen T → ReaderSeen → Type 0
PreludeFirst rest r = (rest.left ≡ []) ⊎ (words_received r ≡ [])

-- Of any subscription, between any two of its calls: what it received, then what is left of its prelude, then what is pending for it, is its
-- prelude, the replay cache at its start and all later accepted emissions, in order and once, less those that it lost. `kept` and `dropped`
-- are indexes of `since_start`; of the prelude none is lost.
pub record ReceivesAllButDropped {T : Type 0} (read_as : ℕ → T) (s : Subscribed T) : Type 0 where
  pub kept : List ℕ
  pub dropped : List ℕ
  pub received_then_pending : received read_as s ++ (s.rest ++ map read_as (pending s.reader))
      ≡ (s.given ++ s.rest) ++ map read_as (values_at (since_start s.reader) kept)
  -- both rise, and together they are all indexes, each once: up to the last emission that it has seen, or its position
  pub in_order_and_once : Interleaves kept dropped (range_with_len 0 (max (length s.reader.story) (length (since_start s.reader))))
  pub only_drop_oldest_drops : s.reader.shape.drops ≡ false → dropped ≡ []

-- A subscription was ended, and its list is complete. `last` is the subscription as its round closed it: it has received no more than
-- before, and has seen all that was accepted from its start on, so that what became of each of these is known, and how many were received
-- and how many lost.
pub record IsComplete {T : Type 0} (read_as : ℕ → T) (s : Subscribed T) (met : Met) : Type 0 where
  pub last : Subscribed T
  pub same : (last.number ≡ s.number) × (last.given ≡ s.given) × (last.rest ≡ s.rest) × IsSameReader s.reader last.reader
  pub received_no_more : received read_as last ≡ received read_as s
  pub receives_all : ReceivesAllButDropped read_as last
  pub has_seen_all : length (since_start last.reader) ≡ met.accepted
  pub is_within : length last.reader.story ≤ met.accepted
  pub counts_received : length (words_received last.reader) ≡ met.received
  pub counts_dropped : length receives_all.dropped ≡ met.dropped
