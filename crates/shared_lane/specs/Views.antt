-- What contracts see of a lane, and of its sequencer, its readers, their ends and its receipts.
use Rattle.std.specs.Prelude.{ℕ, List, Bool}
use Rattle.atomic_table.specs.Seated.{TableId}
use Rattle.atomic_table.specs.declared.shared.Seat.{Seat}
use Rattle.flow_terms.specs.declared.policy.Policy.{Policy}
use Rattle.shared_lane.specs.declared.view.Shape.{Shape}
use Rattle.shared_lane.specs.declared.view.View.{View}
use Rattle.shared_lane.specs.declared.words.Words.{Words}
use Rattle.shared_lane.specs.Law.{Entry}
use Rattle.shared_lane.specs.declared.tickets.Waiting.{Waiting}
use Rattle.shared_lane.specs.declared.tickets.Standing.{Standing}

-- which table the lane is, and what it was made with
pub record LaneSeen : Type 0 where
  pub table : TableId
  pub shape : Shape

-- A reader: its place and the number of the opening of it, where it began, for each number from there on whether it was received, the
-- accepted emissions that it has seen, and those that it was told of since its last load of the tail. `loads` are its loads, in order: the
-- index of a word, and what it found there.
pub record ReaderSeen : Type 0 where
  pub table : TableId
  pub shape : Shape
  pub place : ℕ
  pub opening : ℕ
  pub start : ℕ
  pub story : List Bool
  pub seen : List Entry
  pub told : List Entry
  pub loads : List (ℕ × ℕ)

-- A reader's end: the reader as it was, and whether it closed its cursor.
pub record ClosedSeen : Type 0 where
  pub reader : ReaderSeen
  pub quit : Bool

-- A receipt: whose emission it is for, its number, and the accepted emissions up to it.
pub record ReceiptSeen : Type 0 where
  pub table : TableId
  pub seen : List Entry
  pub emitter : ℕ
  pub number : ℕ

-- The sequencer: what it has seen of the words, the flow's parameters, the replay cache, the emissions that wait,
-- those that were accepted and whose tickets are out, and the next ticket's and the next subscription's number.
pub record SequencerSeen : Type 0 where
  pub table : TableId
  pub view : View
  pub policy : Policy
  pub capacity : ℕ
  pub replay : ℕ
  pub emits : ℕ
  pub cache : List ℕ
  pub waiting : List Waiting
  pub standing : List Standing
  pub ticket : ℕ
  pub subscription : ℕ

abbrev pub lane_of : {A : Type 0} → Words A → LaneSeen
lane_of w = record { table = w.table.shared.table_id; shape = w.shape }

module _ {S : Type 0} where
  abbrev pub reader_of : Seat S View → ReaderSeen
  reader_of s = record {
    table = s.table_id;
    shape = s.me.0.shape;
    place = s.me.0.reading.place;
    opening = s.me.0.reading.opening;
    start = s.me.0.reading.start;
    story = s.me.0.reading.story;
    seen = s.me.0.seen;
    told = s.me.0.told;
    loads = s.me.0.loads;
  }

  abbrev pub closed_of : Seat S View → ClosedSeen
  closed_of s = record { reader = reader_of s; quit = s.me.0.reading.quit }

  abbrev pub receipt_of : Seat S View → ℕ → ℕ → ReceiptSeen
  receipt_of s emitter number = record { table = s.table_id; seen = s.me.0.seen; emitter = emitter; number = number }

  abbrev pub sequencer_of : Seat S View → Policy → ℕ → ℕ → ℕ → List ℕ → List Waiting → List Standing → ℕ → ℕ → SequencerSeen
  sequencer_of s policy capacity replay emits cache waiting standing ticket subscription = record {
    table = s.table_id;
    view = s.me.0;
    policy = policy;
    capacity = capacity;
    replay = replay;
    emits = emits;
    cache = cache;
    waiting = waiting;
    standing = standing;
    ticket = ticket;
    subscription = subscription;
  }
