use Rattle.std.proofs.Common.{◌≡◌, ℕ}
use Rattle.state_updates.specs.Updating.{Missed}
use Rattle.state_updates.proofs.updating.update_until_set.Given as goal

abbrev pub invariant-tries : goal.invariant-tries
invariant-tries g l = record {
  same_flow : l.seat.flow ≡ l.initial.seat.flow;
  missed : (n : ℕ) × Missed n l.initial.seat.view l.seat.view;
}
