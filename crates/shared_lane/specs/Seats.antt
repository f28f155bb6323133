-- The seats at a lane's table.
use Rattle.std.specs.Prelude.{◌≡◌, ℕ, ◌<◌, [], true}
use Rattle.atomic_table.specs.Seated.{TableId}
use Rattle.atomic_table.specs.declared.shared.Seat.{Seat}
use Rattle.shared_lane.specs.declared.view.Shape.{Shape}
use Rattle.shared_lane.specs.declared.view.View.{View}
use Rattle.shared_lane.specs.declared.words.Words.{Words}
use Rattle.shared_lane.specs.Law.{opening_view}

-- which table the words of this lane are
abbrev pub table_of : {A : Type 0} → Words A → TableId
table_of w = w.table.shared.table_id

-- the seat is at this lane's table
abbrev pub IsSeatOf : {A S : Type 0} → Words A → Seat S View → Type 0
IsSeatOf w s = s.table_id ≡ table_of w

-- the words of a new lane of this shape, whose places are all closed, and its sequencer's seat
abbrev pub IsNewLane : {A S : Type 0} → Shape → Words A → Seat S View → Type 0
IsNewLane shape w s = (w.shape ≡ shape) × IsSeatOf w s × (s.me ≡ (opening_view shape, []))

-- the seat is a reader's, of this place
abbrev pub IsReaderAt : {A S : Type 0} → Words A → Seat S View → ℕ → Type 0
IsReaderAt w s place = IsSeatOf w s × (s.me.0.reading.active ≡ true) × (s.me.0.reading.place ≡ place) × (place < w.shape.places)

-- the seat is the sequencer's, and has taken in the reader of this place
abbrev pub IsMeetingAt : {A S : Type 0} → Words A → Seat S View → ℕ → Type 0
IsMeetingAt w s place =
    IsSeatOf w s × (s.me.0.sequencing.active ≡ true) × (s.me.0.reading.active ≡ true) × (s.me.0.reading.place ≡ place) × (place < w.shape.places)

abbrev pub IsSameSeat : {S : Type 0} → Seat S View → Seat S View → Type 0
IsSameSeat s t = (t.table_id ≡ s.table_id) × (t.id ≡ s.id) × (t.me.1 ≡ s.me.1)
