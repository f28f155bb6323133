use Rattle.std.proofs.Common.{◌≡◌, ◌≤◌, drop}
use Rattle.marble_marks.specs.Standings.{room_for}
use Rattle.marble_marks.proofs.standing.room_for.Given as goal

abbrev pub invariant-loop-seat : goal.invariant-loop-seat
invariant-loop-seat l = record {
  room : room_for l.places l.accepted l.room (drop l.seat-index l.seats) ≡ room_for l.places l.accepted l.most l.seats;
  few : l.room ≤ l.most;
}
