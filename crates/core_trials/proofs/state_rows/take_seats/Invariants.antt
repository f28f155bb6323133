use Rattle.std.proofs.Common.{◌≡◌}
use Rattle.core_trials.proofs.state_rows.take_seats.Given as goal

abbrev pub invariant-loop : goal.invariant-loop
invariant-loop l = l.seat.flow ≡ l.initial.seat.flow
