-- Updates, by what is known of the function.
use Rattle.std.proofs.Common.{ℕ}
use Rattle.state_flow.specs.declared.view.View.{View}
use Rattle.state_updates.specs.Updating.{Updates}

pub updates_as : {T : Type 0} (answers promises : T → T → Type 0) (before : View T) (expect update : T) (after : View T)
    → ((x y : T) → answers x y → promises x y) → Updates answers before expect update after → Updates promises before expect update after
updates_as answers promises before expect update after knows u = record {
  answered = knows expect update u.answered;
  failed = u.failed;
  only = u.only;
  later = u.later;
  found = u.found;
  extends = u.extends;
  is_history = u.is_history;
  was = u.was;
  writes = u.writes;
  wrote = u.wrote;
}
