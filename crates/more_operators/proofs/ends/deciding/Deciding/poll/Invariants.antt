use Rattle.std.proofs.Common.{◌≡◌, None}
use Rattle.futures.specs.Task.{Keeps}
use Rattle.more_operators.specs.Decided.{GoesOn}
use Rattle.more_operators.specs.DecidedLaws.{TookOn}
use Rattle.more_operators.proofs.ends.deciding.Deciding.poll.Given as goal

abbrev pub invariant-loop-taken : goal.invariant-loop-taken
invariant-loop-taken g l = record {
  before : l.initial.self.answer ≡ None;
  going : l.self.answer ≡ None;
  decides : GoesOn g.D.Decide.decides g.D.Decide.after g.D.Decide.closes l.initial.self.decider (g.R.Run.may l.initial.self.run) l.self.decider
      (g.R.Run.may l.self.run);
  took : TookOn g.D.Decide.decides g.D.Decide.after g.D.Decide.closes g.R.Run.polled l.initial.self.decider l.initial.self.run l.self.decider l.self.run
      l._taken;
  kept : Keeps l.initial.cx l.cx;
}
