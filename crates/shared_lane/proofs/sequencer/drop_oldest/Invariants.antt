use Rattle.std.proofs.Common.{◌≡◌, ℕ, List, length}
use Rattle.shared_lane.specs.Seats.{IsSameSeat}
use Rattle.shared_lane.specs.Surveys.{Pass, Cleared}
use Rattle.shared_lane.proofs.WholePasses.{EndsAt}
use Rattle.shared_lane.proofs.sequencer.drop_oldest.Given as goal

abbrev pub invariant-loop-place : goal.invariant-loop-place
invariant-loop-place g l = IsSameSeat l.initial.seat l.seat × ((ns : List ℕ) × (length ns ≡ l.place) × Pass (Cleared l.fn.tail l.fn.words.shape.cells) l.initial.seat.me.0 ns l.seat.me.0 × EndsAt ns l.end)
