-- How a shared flow stands after some of its lines: what was accepted, who waits, and how far its subscriptions are.
use Rattle.std.specs.Prelude.{ℕ, ◌+◌, ◌-◌, ◌==◌, List, [], ◌∷◌, ◌++◌, map, length, take, drop, min, max, Option, Some, None, if◌then◌else◌}
use Rattle.std.specs.List.{filter_map}
use Rattle.marble_marks.specs.declared.standing.Seat.{Seat}
use Rattle.marble_marks.specs.declared.standing.Standing.{Standing}
use Rattle.marble_marks.specs.declared.standing.Step.{Step}
use Rattle.marble_marks.specs.declared.standing.Step.TheVariants as steps

pub record Stand : Type 0 where
  -- how many of the latest values a newcomer begins with
  pub replay : ℕ
  -- how many values may be pending for a subscription
  pub places : ℕ
  -- how many values were accepted
  pub accepted : ℕ
  -- how many were accepted before the replay cache was emptied
  pub reset_at : ℕ
  -- the values that wait, in their order
  pub waiting : List ℕ
  -- the live subscriptions
  pub seats : List Seat

abbrev pub stand_in : Standing → Stand
stand_in standing = record {
  replay = standing.replay;
  places = standing.places;
  accepted = standing.accepted;
  reset_at = standing.reset_at;
  waiting = standing.waiting.items;
  seats = standing.seats.items;
}

-- before its first line
abbrev pub begun : Stand
begun = record { replay = 0; places = 0; accepted = 0; reset_at = 0; waiting = []; seats = [] }

abbrev pub seat : ℕ → ℕ → ℕ → Seat
seat row prelude next = record { row = row; prelude = prelude; next = next }

-- ---- what a line does

-- the number of the first value that a newcomer takes
abbrev pub start_of : Stand → ℕ
start_of stand = max (stand.accepted - stand.replay) stand.reset_at

-- a subscription that receives a value: the next of its prelude, while there is one, and then of what was accepted
abbrev pub given : ℕ → Seat → Seat
given accepted it =
    if it.prelude == 0 then seat it.row 0 (min (it.next + 1) accepted) else seat it.row (it.prelude - 1) it.next

-- the same, where it is the one on this row
abbrev pub given_on : ℕ → ℕ → Seat → Seat
given_on row accepted it = if it.row == row then given accepted it else it

-- a subscription, unless it is the one on this row
abbrev pub not_on : ℕ → Seat → Option Seat
not_on row it = if it.row == row then None else Some it

-- at most the largest number, and at least one
abbrev pub places_for : ℕ → ℕ → ℕ
places_for replay extra = max (min (replay + extra) 18446744073709551615) 1

abbrev pub joined : ℕ → ℕ → Stand → Stand
joined row prelude stand = record stand { seats = stand.seats ++ seat row prelude (start_of stand) ∷ [] }

abbrev pub stepped : Step → Stand → Stand
stepped (steps.Opened replay extra) stand = record stand { replay = replay; places = places_for replay extra }
stepped steps.Accepted stand = record stand { accepted = stand.accepted + 1 }
stepped (steps.Waits value) stand = record stand { waiting = stand.waiting ++ value ∷ [] }
stepped (steps.Joined row prelude) stand = joined row prelude stand
stepped (steps.Took row) stand = record stand { seats = map (given_on row stand.accepted) stand.seats }
stepped (steps.Ended row) stand = record stand { seats = filter_map (not_on row) stand.seats }
stepped steps.Emptied stand = record stand { reset_at = stand.accepted }

-- ---- who is accepted

-- how many more values this subscription has places for
abbrev pub free : ℕ → ℕ → Seat → ℕ
free places accepted it = places - (accepted - it.next)

-- of so many values those for which each of these subscriptions has a place
abbrev pub room_for : ℕ → ℕ → ℕ → List Seat → ℕ
room_for places accepted most [] = most
room_for places accepted most (it ∷ seats) = room_for places accepted (min most (free places accepted it)) seats

-- HOW MANY OF THOSE THAT WAIT ARE ACCEPTED
abbrev pub accepted_later : Stand → ℕ
accepted_later stand = room_for stand.places stand.accepted (length stand.waiting) stand.seats

abbrev pub settled : Stand → Stand
settled stand = record stand { accepted = stand.accepted + accepted_later stand; waiting = drop (accepted_later stand) stand.waiting }

-- the values that are accepted, the one that waited longest first
abbrev pub accepted_later_values : Stand → List ℕ
accepted_later_values stand = take (accepted_later stand) stand.waiting
