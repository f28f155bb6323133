use Rattle.std.specs.Iterator.{size}
use Rattle.futures.specs.Task.{Keeps}
use Rattle.cold_flow.specs.Poll.{Within}
use Rattle.cold_flow.specs.Gather.{Gathered}
use Rattle.cold_flow.specs.Polled.{Gave}
use Rattle.cold_flow.proofs.ends.to_list.to_list.Given as goal

abbrev pub invariant-polls : goal.invariant-polls
invariant-polls g l = record {
  within : Within (g.R.Run.may l.initial.run) (Gathered l.values.items (g.R.Run.may l.run));
  gave : Gave g.R.Run.polled l.initial.run l.values.items l.run;
  kept : Keeps l.initial.cx l.cx;
}

abbrev pub decreases-polls : goal.decreases-polls
decreases-polls g l = size (g.R.Run.polls l.run)
