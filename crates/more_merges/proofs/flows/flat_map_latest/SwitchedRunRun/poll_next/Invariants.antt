use Rattle.std.proofs.Common.{◌≡◌, None}
use Rattle.futures.specs.Task.{Keeps}
use Rattle.cold_flow.specs.Poll.{Within, Unless}
use Rattle.cold_flow.specs.Polled.{IsNearer}
use Rattle.flow_merge.specs.Combine.{OrFinished}
use Rattle.flow_merge.specs.Concat.{MayStand}
use Rattle.more_merges.specs.Latest.{MaySwitch}
use Rattle.more_merges.specs.Standing.{StandsOrLetGo}
use Rattle.more_merges.proofs.flows.flat_map_latest.SwitchedRunRun.poll_next.Given as goal

abbrev pub invariant-loop-asked : goal.invariant-loop-asked
invariant-loop-asked g l = record {
  begun : l.initial.self.ended ≡ None;
  going : l.self.ended ≡ None;
  within : Within (Unless l.initial.self.ended (MaySwitch (λ x. g.F.Flow.starts (g.G.Apply.gives l.initial.self.function x))
      (λ x. g.F.Flow.may (g.G.Apply.gives l.initial.self.function x)) (MayStand g.F.Running.Run.may l.initial.self.inner)
      (OrFinished l.initial.self.outer_finished (g.O.Run.may l.initial.self.outer))))
      (Unless l.self.ended (MaySwitch (λ x. g.F.Flow.starts (g.G.Apply.gives l.self.function x))
      (λ x. g.F.Flow.may (g.G.Apply.gives l.self.function x)) (MayStand g.F.Running.Run.may l.self.inner)
      (OrFinished l.self.outer_finished (g.O.Run.may l.self.outer))));
  stood : StandsOrLetGo g.F.Running.Run.cancelled g.F.Running.Run.stopped l.initial.self.inner l.self.inner;
  nearer : IsNearer l._asked (g.O.Run.polls l.initial.self.outer) (g.O.Run.polls l.self.outer);
  kept : Keeps l.initial.cx l.cx;
}
