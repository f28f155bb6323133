use Rattle.std.proofs.Common.{◌≡◌}
use Rattle.futures.specs.Task.{Keeps}
use Rattle.cold_flow.specs.declared.ends.collect.Gathering.TheVariants.{Going}
use Rattle.cold_flow.specs.Poll.{Within}
use Rattle.cold_flow.specs.Gather.{Gathered}
use Rattle.cold_flow.specs.PolledLaws.{Took}
use Rattle.cold_flow.proofs.ends.collect.Collecting.poll.Given as goal

abbrev pub invariant-loop-taken : goal.invariant-loop-taken
invariant-loop-taken g l = record {
  before : l.initial.self.state ≡ Going;
  going : l.self.state ≡ Going;
  within : Within (Gathered l.initial.self.values.items (g.R.Run.may l.initial.self.run)) (Gathered l.self.values.items (g.R.Run.may l.self.run));
  took : Took g.R.Run.polled l.initial.self.values.items l.initial.self.run l.self.values.items l.self.run l._taken;
  kept : Keeps l.initial.cx l.cx;
}
