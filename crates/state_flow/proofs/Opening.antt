-- The first seat of a flow.
use Rattle.std.proofs.Common.{◌≡◌, ℕ, ◌<◌, ◌≤◌, [], false, sym, ap, subst}
use Rattle.atomic_table.specs.Table.{Me}
use Rattle.atomic_table.specs.Seated.{TableId}
use Rattle.atomic_table.specs.declared.shared.Seat.{Seat}
use Rattle.state_flow.specs.declared.view.View.{View}
use Rattle.state_flow.specs.History.{IsHistory, made}
use Rattle.state_flow.specs.Views.{IsSeated, opening}

module _ {T : Type 0} where
  pub seated_first : (seat : Seat (Unit {0}) (View T)) (flow : TableId) (value : T) (seats : ℕ) → seat.table_id ≡ flow → seat.me ≡ (opening value seats, [])
      → 0 < seats → seats ≤ 1024 → IsSeated seat flow seats 0 false
  seated_first seat flow value seats same is some_seats few_seats = record {
    same_flow = same;
    share_is = ap (λ (m : Me (Unit {0}) (View T)). m.0.share) is;
    runs_is = ap (λ (m : Me (Unit {0}) (View T)). m.0.runs) is;
    few_run = some_seats;
    few = few_seats;
    collects_is = ap (λ (m : Me (Unit {0}) (View T)). m.0.collects) is;
    is_history = subst IsHistory (sym (ap (λ (m : Me (Unit {0}) (View T)). m.0.seen) is)) (made value);
    untold = ap (λ (m : Me (Unit {0}) (View T)). m.0.told) is;
    untold_turn = ap (λ (m : Me (Unit {0}) (View T)). m.0.told_turn) is;
    holds_no_slot = ap (λ (m : Me (Unit {0}) (View T)). m.1) is;
  }
