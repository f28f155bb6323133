-- What an export on a state flow does: what `state_flow` says of its own call, told to C.
use Rattle.std.specs.Prelude.{◌≡◌, ◌⊎◌, ◌≤◌, ℕ, ◌+◌, ◌<◌, Bool, true, false, Option, Some, None, Result, Ok, Err}
use Rattle.state_flow.specs.declared.view.View.{View}
use Rattle.state_flow.specs.Views.{opening, giver, taker}
use Rattle.state_flow.specs.Calls as calls
use Rattle.hillgauze_c.specs.declared.object.Object.{Object}
use Rattle.hillgauze_c.specs.declared.object.Object.TheVariants.{Vacant, Seat, Collector}
use Rattle.hillgauze_c.specs.declared.parties.seating.Seating.{Seating}
use Rattle.hillgauze_c.specs.declared.parties.collecting.Collecting.{Collecting}
use Rattle.hillgauze_c.specs.declared.reply.Reply.{Reply}
use Rattle.hillgauze_c.specs.Replies.{answered, refused_as, value_reply, compared_reply}
use Rattle.hillgauze_c.specs.Kinds.{seat_of, collector_of, OnHandle}

-- a call of a seat, of the view before and after; the flow stays the same
abbrev pub OnSeat : (View ℕ → Reply → View ℕ → Type 0) → Option Object → Reply → Option Object → Type 0
OnSeat Call = OnHandle seat_of Seat (λ old reply new. (new.seat.flow ≡ old.seat.flow) × Call old.seat.view reply new.seat.view)

abbrev pub OnCollector : (View ℕ → Reply → View ℕ → Type 0) → Option Object → Reply → Option Object → Type 0
OnCollector Call = OnHandle collector_of Collector (λ old reply new. (new.collector.flow ≡ old.collector.flow) × Call old.collector.view reply new.collector.view)

abbrev pub ReadsValue : View ℕ → Reply → View ℕ → Type 0
ReadsValue v reply w = (x : ℕ) × (reply ≡ answered 9 x) × calls.Reads v x w

abbrev pub SetsValue : ℕ → View ℕ → Reply → View ℕ → Type 0
SetsValue value v reply w = (reply ≡ answered 1 0) × calls.Sets v value w

abbrev pub ComparesValue : ℕ → ℕ → View ℕ → Reply → View ℕ → Type 0
ComparesValue expect update v reply w = (answer : Bool) × (reply ≡ compared_reply answer) × calls.Compares v expect update answer w

abbrev pub CountsCollectors : View ℕ → Reply → View ℕ → Type 0
CountsCollectors v reply w = (n : ℕ) × (reply ≡ answered 13 n) × calls.Counts v n w

abbrev pub CountsSpare : View ℕ → Reply → View ℕ → Type 0
CountsSpare v reply w = (w ≡ v) × ((n : ℕ) × (reply ≡ answered 13 n) × (n + 1 ≡ v.share))

abbrev pub CollectsValue : View ℕ → Reply → View ℕ → Type 0
CollectsValue v reply w = (given : Option ℕ) × (reply ≡ value_reply given) × calls.Collects v given w

-- a flow was made and its first seat stands in the handle, which has to be null
abbrev pub MakesState : ℕ → ℕ → Option Object → Reply → Option Object → Type 0
MakesState value seats (Some object) reply after = (reply ≡ refused_as 103) × (after ≡ Some object)
MakesState value seats None reply after =
    ((seating : Seating) × (reply ≡ answered 1 0) × (after ≡ Some (Seat seating)) × (seating.seat.view ≡ opening value seats) × (0 < seats) × (seats ≤ 1024))
    ⊎ (((reply ≡ refused_as 3) × ((seats ≡ 0) ⊎ (1024 < seats)) × (after ≡ None)) ⊎ ((reply ≡ refused_as 4) × (0 < seats) × (seats ≤ 1024) × (after ≡ None)))

-- a seat was taken and stands in the other handle, or the call was refused and the seat is as it was
abbrev pub TakesSeat : ℕ → Option Object → Seating → Reply → Seating → Type 0
TakesSeat share handle old reply new =
    ((taken : Seating) × (reply ≡ answered 1 0) × (handle ≡ Some (Seat taken)) × (taken.seat.flow ≡ old.seat.flow)
    × (taken.seat.view ≡ taker (share + 1) old.seat.view) × (new.seat.view ≡ giver (share + 1) old.seat.view) × (new.seat.flow ≡ old.seat.flow))
    ⊎ ((new.seat.view ≡ old.seat.view) × (new.seat.flow ≡ old.seat.flow) × ((reply ≡ refused_as 4) ⊎ ((reply ≡ refused_as 5) × (old.seat.view.share ≤ share + 1))))

-- the two seats are of one flow, where both handles have seats
abbrev pub AreOfOneFlow : Option Object → Option Object → Type 0
AreOfOneFlow (Some (Seat mine)) (Some (Seat other)) = other.seat.flow ≡ mine.seat.flow
AreOfOneFlow _ _ = Unit {0}

-- the seat was taken out of the object, which is vacant then; one of another kind stays
abbrev pub IsTakenOut : Object → Option Seating → Object → Type 0
IsTakenOut (Seat seating) result new = (result ≡ Some seating) × (new ≡ Vacant)
IsTakenOut old result new = (result ≡ None) × (new ≡ old)

-- the seat became a collector of the same flow; an object of another kind stays
abbrev pub BeginsIn : Object → Bool → Object → Type 0
BeginsIn (Seat old) answer new =
    (answer ≡ true) × ((c : Collecting) × (new ≡ Collector c) × (c.collector.flow ≡ old.seat.flow) × calls.Begins old.seat.view c.collector.view)
BeginsIn old answer new = (answer ≡ false) × (new ≡ old)

-- the collector became a seat of the same flow; an object of another kind stays
abbrev pub EndsIn : Object → Bool → Object → Type 0
EndsIn (Collector old) answer new =
    (answer ≡ true) × ((s : Seating) × (new ≡ Seat s) × (s.seat.flow ≡ old.collector.flow) × calls.Ends old.collector.view s.seat.view)
EndsIn old answer new = (answer ≡ false) × (new ≡ old)

-- the object of a handle was changed so, and stands in the other handle, which was null; one of another kind stays
abbrev pub Moves : (Object → Bool → Object → Type 0) → Option Object → Reply → Option Object → Option Object → Type 0
Moves Change None reply from to = (reply ≡ refused_as 101) × (from ≡ None) × (to ≡ None)
Moves Change (Some object) reply from to =
    ((new : Object) × Change object true new × (reply ≡ answered 1 0) × (from ≡ None) × (to ≡ Some new))
    ⊎ (Change object false object × (reply ≡ refused_as 102) × (from ≡ Some object) × (to ≡ None))

-- the seat took back the other one, whose handle is null then; where one of them is no seat both handles stay
abbrev pub GivesBack : Option Object → Option Object → Reply → Option Object → Option Object → Type 0
GivesBack (Some (Seat mine)) (Some (Seat other)) reply mine' other' =
    (reply ≡ answered 1 0) × (other' ≡ None)
    × ((joined : Seating) × (mine' ≡ Some (Seat joined)) × (joined.seat.flow ≡ mine.seat.flow) × calls.TakesBack mine.seat.view other.seat.view joined.seat.view)
GivesBack (Some (Seat mine)) None reply mine' other' = (reply ≡ refused_as 101) × (mine' ≡ Some (Seat mine)) × (other' ≡ None)
GivesBack None other reply mine' other' = (reply ≡ refused_as 101) × (mine' ≡ None) × (other' ≡ other)
GivesBack mine other reply mine' other' = (reply ≡ refused_as 102) × (mine' ≡ mine) × (other' ≡ other)

-- the seat was taken out of the handle, which is null then; else the handle stays
abbrev pub IsTakenFrom : Option Object → Result Seating ℕ → Option Object → Type 0
IsTakenFrom (Some (Seat seating)) result after = (result ≡ Ok seating) × (after ≡ None)
IsTakenFrom None result after = (result ≡ Err 101) × (after ≡ None)
IsTakenFrom handle result after = (result ≡ Err 102) × (after ≡ handle)
