use Rattle.std.proofs.Common.{◌≡◌, ◌++◌, map, take, drop}
use Rattle.marble_marks.specs.Standings.{given_on}
use Rattle.marble_marks.proofs.standing.give.Given as goal

abbrev pub invariant-loop-seat : goal.invariant-loop-seat
invariant-loop-seat l = l.seat-items ≡ map (given_on l.row l.accepted) (take l.seat-index l.fn.seats.items) ++ drop l.seat-index l.fn.seats.items
