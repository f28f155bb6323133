use Rattle.std.proofs.Common.{◌≡◌, None, IsTrue, false, vec_len}
use Rattle.futures.specs.Task.{IsArmed, Keeps}
use Rattle.cold_flow.specs.Poll.{Within, IsWithinPolls}
use Rattle.flow_merge.specs.Concat.{MayStand}
use Rattle.flow_merge.specs.Counting.{IsFewer, standing_polls}
use Rattle.more_merges.specs.Joins.{MayJoin, WereAsked, all_polls, each_is}
use Rattle.more_merges.specs.Standing.{HasStandingWaited, standing_prompt}
use Rattle.more_merges.proofs.flows.sides.ask_sides.Given as goal

abbrev pub invariant-places : goal.invariant-places
invariant-places g l = record {
  many : vec_len l.sides ≡ l.count;
  within : Within (MayJoin (MayStand g.R.Run.may) l.initial.sides.items) (MayJoin (MayStand g.R.Run.may) l.sides.items);
  lasts : IsWithinPolls (all_polls (standing_polls g.R.Run.polls) l.initial.sides.items) (all_polls (standing_polls g.R.Run.polls) l.sides.items);
  fewer : IsTrue l.waits → IsFewer (all_polls (standing_polls g.R.Run.polls) l.initial.sides.items) (all_polls (standing_polls g.R.Run.polls) l.sides.items);
  prompt : IsTrue (each_is (standing_prompt g.R.Run.prompt) l.initial.sides.items)
      → IsTrue (each_is (standing_prompt g.R.Run.prompt) l.sides.items) × (l.waits ≡ false);
  waited : WereAsked (HasStandingWaited g.R.Run.polled) l.count l.first l.asked l.sides.items;
  finished : l.waits ≡ false → WereAsked (λ side. side ≡ None) l.count l.first l.asked l.sides.items;
  armed : IsTrue l.waits → IsArmed l.cx;
  kept : Keeps l.initial.cx l.cx;
}
