use Rattle.std.proofs.Common.{◌≡◌, ℕ, List, length}
use Rattle.shared_lane.specs.Seats.{IsSameSeat}
use Rattle.shared_lane.specs.Surveys.{Pass, FoundAt}
use Rattle.shared_lane.specs.Blocks.{HasRoom}
use Rattle.shared_lane.proofs.WholePasses.{EndsAt}
use Rattle.shared_lane.proofs.sequencer.blocks.load_room.Given as goal

abbrev pub invariant-loop-place : goal.invariant-loop-place
invariant-loop-place g l = IsSameSeat l.initial.seat l.seat × ((ns : List ℕ) × (length ns ≡ l.place) × Pass FoundAt l.initial.seat.me.0 ns l.seat.me.0 × HasRoom l.fn.tail l.fn.lag ns l.fn.most l.room × EndsAt ns l.end)
