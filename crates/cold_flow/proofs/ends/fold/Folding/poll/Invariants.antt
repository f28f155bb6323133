use Rattle.std.proofs.Common.{◌≡◌, None}
use Rattle.futures.specs.Task.{Keeps}
use Rattle.cold_flow.specs.Fold.{Folds}
use Rattle.cold_flow.specs.PolledLaws.{TookInto}
use Rattle.cold_flow.proofs.ends.fold.Folding.poll.Given as goal

abbrev pub invariant-loop-taken : goal.invariant-loop-taken
invariant-loop-taken g l = record {
  before : l.fn.self.cause ≡ None;
  going : l.self.cause ≡ None;
  same : l.self.function ≡ l.fn.self.function;
  folds : Folds (g.G.Apply.gives l.fn.self.function) l.fn.self.state (g.R.Run.may l.fn.self.run) l.self.state (g.R.Run.may l.self.run);
  took : TookInto g.R.Run.polled (g.G.Apply.gives l.fn.self.function) l.fn.self.state l.fn.self.run l.self.state l.self.run l._taken;
  kept : Keeps l.fn.cx l.cx;
}
