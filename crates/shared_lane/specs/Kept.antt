-- What is true of the fields of every reader and sequencer.
use Rattle.std.specs.Prelude.{◌≡◌, ℕ, ◌+◌, ◌≤◌, ◌<◌, [], length, max, true, false}
use Rattle.atomic_table.specs.declared.shared.Seat.{Seat}
use Rattle.shared_lane.specs.declared.view.View.{View}
use Rattle.shared_lane.specs.Law.{received, lost}
use Rattle.shared_lane.specs.Layout.{cell_index}
use Rattle.shared_lane.specs.Steps.{position, next_number}
use Rattle.shared_lane.specs.Surveys.{ShutFrom, opening_at}
use Rattle.shared_lane.specs.Views.{SequencerSeen}
use Rattle.shared_lane.specs.Ordering.{IsInOrder}
use Rattle.shared_lane.specs.Caches.{drops_values, may_wait, AreAccepted, IsLastOf}

-- a reader's seat, and the numbers that it keeps beside it
pub record IsReading (seat : Seat (Unit {0}) View) (place start at cell taken : ℕ) : Type 0 where
  pub active : seat.me.0.reading.active ≡ true
  pub holds_no_slot : seat.me.1 ≡ []
  pub place_is : seat.me.0.reading.place ≡ place
  pub inside : place < seat.me.0.shape.places
  pub start_is : seat.me.0.reading.start ≡ start
  pub at_is : at ≡ position seat.me.0.reading
  pub cell_is : cell ≡ cell_index seat.me.0.shape at
  pub taken_is : taken ≡ length (received start seat.me.0.reading.story)

-- the seat of a reader that has ended, and what it counted
pub record IsEnded (seat : Seat (Unit {0}) View) (from got missed : ℕ) : Type 0 where
  pub over : seat.me.0.reading.quit ≡ true
  pub holds_no_slot : seat.me.1 ≡ []
  pub inside : seat.me.0.reading.place < seat.me.0.shape.places
  pub start_is : from ≡ seat.me.0.reading.start
  pub received_is : got ≡ length (received seat.me.0.reading.start seat.me.0.reading.story)
  pub dropped_is : missed ≡ length (lost seat.me.0.reading.start seat.me.0.reading.story)

-- what is true of what contracts see of a sequencer
pub record IsSound (q : SequencerSeen) : Type 0 where
  pub active : q.view.sequencing.active ≡ true
  pub no_flight : q.view.sequencing.flight ≡ []
  pub each_place_known : length q.view.sequencing.places ≡ q.view.shape.places
  pub some_place : 0 < q.view.shape.places
  pub cells : q.view.shape.cells ≡ max q.capacity 1
  pub drops : q.view.shape.drops ≡ drops_values q.policy
  pub replay : q.replay ≤ q.capacity
  pub few_tickets : length q.waiting + length q.standing ≤ q.emits
  pub few_emits : q.emits ≤ 1024
  pub numbers : next_number q.view + length q.waiting ≤ 4611686018427387904
  pub tickets : q.ticket ≤ 4611686018427387904
  pub subscriptions : q.subscription ≤ 4611686018427387904
  pub openings : (p : ℕ) → opening_at q.view p ≤ q.subscription
  pub waits : may_wait q.policy ≡ false → q.waiting ≡ []
  pub stands : AreAccepted q.view.shape.first q.view.seen q.standing
  pub cached : IsLastOf q.view.seen q.cache
  pub in_order : IsInOrder q.standing q.waiting q.ticket (next_number q.view)

-- a sequencer's seat, its copy of the tail, the index of the tail's cell, the place from which on all are known to be closed, and the room
-- of its tables
pub record IsSequencing (q : SequencerSeen) (seat : Seat (Unit {0}) View) (tail cell open_end waiting_room standing_room : ℕ) : Type 0 where
  pub sound : IsSound q
  pub holds_no_slot : seat.me.1 ≡ []
  pub tail_is : tail ≡ next_number q.view
  pub cell_is : cell ≡ cell_index q.view.shape tail
  pub end_within : open_end ≤ q.view.shape.places
  pub shut_from : ShutFrom q.view open_end
  pub room_to_wait : q.emits ≤ waiting_room
  pub room_to_stand : q.emits ≤ standing_room
