-- A reader that has loaded its own position and the tail.
use Rattle.std.proofs.Common.{◌≡◌, ℕ, List, ◌-◌, ◌<◌, ◌≤◌, length, sym, ap, subst, ◌∙◌}
use Rattle.atomic_table.specs.declared.shared.Seat.{Seat}
use Rattle.shared_lane.specs.declared.view.View.{View}
use Rattle.shared_lane.specs.declared.view.Reading.{Reading}
use Rattle.shared_lane.specs.declared.view.Shape.{Shape}
use Rattle.shared_lane.specs.Law.{Entry, received}
use Rattle.shared_lane.specs.Layout.{cell_index}
use Rattle.shared_lane.specs.Steps.{position, found_at}
use Rattle.shared_lane.specs.Kept.{IsReading}
use Rattle.shared_lane.specs.Readers.{TookNext}
use Rattle.shared_lane.specs.Views.{ReaderSeen}
use Rattle.shared_lane.specs.declared.reader.Taken.{Taken}
use Rattle.shared_lane.specs.declared.reader.Taken.TheVariants.{Value, Nothing, Overtaken}
use Rattle.shared_lane.proofs.Stories.{position_found, received_none}

-- it has found its cursor there, and took nothing
pub found_itself : (seat seat' : Seat (Unit {0}) View) (place start at cell taken n cell' : ℕ) → IsReading seat place start at cell taken
    → seat'.me.0.reading ≡ found_at n seat.me.0.reading → seat'.me.0.shape ≡ seat.me.0.shape → seat'.me.1 ≡ seat.me.1 → position seat.me.0.reading ≤ n
    → cell' ≡ cell_index seat.me.0.shape n → IsReading seat' place start n cell' taken
found_itself seat seat' place start at cell taken n cell' was reading shape slots rises cell_is = record {
  active = ap (λ (x : Reading). x.active) reading ∙ was.active;
  holds_no_slot = slots ∙ was.holds_no_slot;
  place_is = ap (λ (x : Reading). x.place) reading ∙ was.place_is;
  inside = subst (λ (z : Shape). place < z.places) (sym shape) was.inside;
  start_is = ap (λ (x : Reading). x.start) reading ∙ was.start_is;
  at_is = sym (ap position reading ∙ position_found n seat.me.0.reading rises);
  cell_is = cell_is ∙ ap (λ (z : Shape). cell_index z n) (sym shape);
  taken_is = was.taken_is ∙ sym (ap (λ (x : Reading). length (received start x.story)) reading ∙ received_none start (n - position seat.me.0.reading) seat.me.0.reading.story);
}

-- what a reader took doesn't depend on what it was told
pub took_untold : (r : ReaderSeen) (told : List Entry) (taken : Taken ℕ) (t : ReaderSeen) → TookNext (record r { told = told }) taken t → TookNext r taken t
took_untold r told (Value w) t took = took
took_untold r told Nothing t took = took
took_untold r told Overtaken t took = took
