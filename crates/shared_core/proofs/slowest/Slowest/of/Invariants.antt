use Rattle.shared_core.specs.Places.{OthersFrom, IsReached}
use Rattle.shared_core.proofs.slowest.Slowest.of.Given as goal

abbrev pub invariant-loop-i : goal.invariant-loop-i
invariant-loop-i l = record {
  from : OthersFrom l.i l.slowest.noted l.slowest.others l.places;
  reached : IsReached l.places l.slowest.others;
}
