use Rattle.std.proofs.Common.{◌≡◌}
use Rattle.state_updates.specs.Updating.{Missed}
use Rattle.state_updates.proofs.updating.try_update.Given as goal

abbrev pub invariant-tries : goal.invariant-tries
invariant-tries g l = record {
  same_flow : l.seat.flow ≡ l.initial.seat.flow;
  missed : Missed l._tried l.initial.seat.view l.seat.view;
}
