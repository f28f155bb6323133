use Rattle.std.proofs.Common.{take}
use Rattle.shared_core.specs.Places.{NotedFrom, IsReached}
use Rattle.shared_core.proofs.slowest.Slowest.least_noted.Given as goal

abbrev pub invariant-loop-at : goal.invariant-loop-at
invariant-loop-at l = record {
  from : NotedFrom (take l.at-index l.self.noted) l.least l.places;
  reached : IsReached l.places l.least;
}
