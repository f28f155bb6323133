-- How the state of each side fits its end of the channel, and how contracts see it.
use Rattle.std.specs.Prelude.{◌≡◌, ℕ, Option, length}
use Rattle.atomic_table.specs.declared.badge.Badge.{Badge}
use Rattle.crossbeam_channel.specs.declared.flavors.array.Doing.{Doing}
use Rattle.crossbeam_channel.specs.declared.flavors.array.Key.{Key}
use Rattle.crossbeam_channel.specs.declared.flavors.array.Rows.{Rows}
use Rattle.crossbeam_channel.specs.Claims.{Pass, view as knows, IsSeatAt}
use Rattle.crossbeam_channel.specs.Ends.{ruled_capacity}
use Rattle.cold_flow.specs.declared.cause.Cause.{Cause}
use Rattle.cold_flow.specs.declared.event.Event.{Event}
use Rattle.flow_terms.specs.declared.policy.Policy.{Policy}
use Rattle.flow_buffer.specs.declared.side.Side.{Side}
use Rattle.flow_buffer.specs.Channel.{feed_side, drain_side}
use Rattle.flow_buffer.specs.History.{Rises}
use Rattle.flow_buffer.specs.Sides.{Channel, Feeding, Draining, may_drop, saturated, drops, NothingAfter, IsEndKnown}

module _ {T E Q M L A : Type 0} (c : Rows (Badge (Key (Event T E))) (Doing (Event T E) (Side T E)) Q M (Key (Event T E)) L A) where
  -- which channel an end belongs to
  abbrev pub channel_of : Channel T E
  channel_of = record { table = c.stamps.shared.table_id; key = c.stamps.shared.key }

  -- what contracts see of a feed: what its pass knows, what waits, and the end that was sent
  abbrev pub feed_view : Policy → Pass (Event T E) (Side T E) → Option (Event T E) → Option (Cause E) → Feeding T E
  feed_view policy pass waiting sent = record {
    channel = channel_of;
    capacity = ruled_capacity c;
    policy = policy;
    produced = (knows pass).produced;
    level = (knows pass).level.held;
    waiting = waiting;
    sent = sent;
  }

  -- A feed has both ends of the channel, its pass knows what was produced and which end was sent, and what was dropped is counted.
  -- Nothing waits behind the end.
  abbrev pub IsFeed : Rows (Badge (Key (Event T E))) (Doing (Event T E) (Side T E)) Q M (Key (Event T E)) L A → Policy
      → Pass (Event T E) (Side T E) → ℕ → Option (Event T E) → Option (Cause E) → Type 0
  IsFeed other policy pass dropped waiting sent = (other ≡ c) × IsSeatAt c pass
      × (knows pass ≡ feed_side (may_drop policy) sent (knows pass).produced (knows pass).level) × (dropped ≡ saturated (drops (knows pass).produced))
      × NothingAfter sent waiting

  -- what contracts see of a drain: what its pass knows, and the end that came
  abbrev pub drain_view : Pass (Event T E) (Side T E) → Option (Cause E) → Draining T E
  drain_view pass end =
      record { channel = channel_of; lossy = (knows pass).lossy; taken = (knows pass).taken; end = end; history = (knows pass).history }

  -- a drain's pass knows what was taken, at rising indexes, and with an end what became of all; what was taken is counted
  abbrev pub IsDrain : Pass (Event T E) (Side T E) → ℕ → Option (Cause E) → Type 0
  IsDrain pass taken end = IsSeatAt c pass
      × (knows pass ≡ drain_side (knows pass).lossy end (knows pass).taken (knows pass).history (knows pass).seen)
      × (taken ≡ saturated (length (knows pass).taken)) × Rises 0 (knows pass).taken
      × IsEndKnown end (knows pass).lossy (knows pass).taken (knows pass).history
