use Rattle.std.proofs.Common.{◌≤◌, length, vec_capacity}
use Rattle.std.specs.Iterator.{size}
use Rattle.cold_flow.specs.Poll.{Within, IsWithinPolls}
use Rattle.cold_flow.specs.Gather.{Gathered}
use Rattle.script_commands.proofs.gathered.fill.Given as goal

abbrev pub invariant-polls : goal.invariant-polls
invariant-polls g l = record {
  within : Within (Gathered l.initial.values.items (g.R.Run.may l.initial.run)) (Gathered l.values.items (g.R.Run.may l.run));
  room : l.room ≤ vec_capacity l.values;
  few : length l.initial.values.items ≤ 10000 → length l.values.items ≤ 10000;
  nearer : IsWithinPolls (g.R.Run.polls l.initial.run) (g.R.Run.polls l.run);
}

abbrev pub decreases-polls : goal.decreases-polls
decreases-polls g l = size (g.R.Run.polls l.run)
