use Rattle.shared_lane.specs.Seats.{IsSameSeat}
use Rattle.shared_lane.specs.Surveys.{FoundAllOpen}
use Rattle.shared_lane.proofs.sequencer.find_closed.Given as goal

abbrev pub invariant-loop-place : goal.invariant-loop-place
invariant-loop-place g l = IsSameSeat l.initial.seat l.seat × FoundAllOpen l.place l.initial.seat.me.0 l.seat.me.0
