use Rattle.std.proofs.Common.{◌≡◌, ◌≤◌, ◌-◌, length}
use Rattle.hillgauze_c.proofs.Received.{Fronts}
use Rattle.hillgauze_c.proofs.receiving.receive_into.Given as goal

abbrev pub invariant-loop-count : goal.invariant-loop-count
invariant-loop-count l =
    record {
      asked : l.id ≡ l.fn.id;
      size : length l.values ≡ length l.fn.values;
      within : l.count ≤ length l.fn.values;
      fronts : Fronts l.fn.id.0 l.fn.values l.values l.fn.shared l.count (length l.fn.values - l.count) l.shared;
    }

abbrev pub decreases-loop-count : goal.decreases-loop-count
decreases-loop-count l = length l.values - l.count
