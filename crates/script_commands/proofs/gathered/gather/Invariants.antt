use Rattle.std.proofs.Common.{◌≤◌, length, vec_capacity}
use Rattle.std.specs.Iterator.{size}
use Rattle.cold_flow.specs.Poll.{Within}
use Rattle.cold_flow.specs.Gather.{Gathered}
use Rattle.script_commands.proofs.gathered.gather.Given as goal

abbrev pub invariant-rooms : goal.invariant-rooms
invariant-rooms g l = record {
  within : Within (g.R.Run.may l.initial.run) (Gathered l.values.items (g.R.Run.may l.run));
  few : length l.values.items ≤ 10000;
  room : l.room ≤ vec_capacity l.values;
  limit : l.room ≤ 10000;
}

abbrev pub decreases-rooms : goal.decreases-rooms
decreases-rooms g l = size (g.R.Run.polls l.run)
