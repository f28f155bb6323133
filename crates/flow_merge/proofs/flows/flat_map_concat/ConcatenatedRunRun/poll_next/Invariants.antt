use Rattle.std.proofs.Common.{◌≡◌, ◌+◌, ◌≤◌, None}
use Rattle.futures.specs.Task.{Keeps}
use Rattle.cold_flow.specs.Poll.{Within, Unless}
use Rattle.flow_merge.specs.Concat.{MayConcat}
use Rattle.std.specs.Iterator.{IsFinite, size, count_add}
use Rattle.flow_merge.specs.Counting.{rounds, standing_polls}
use Rattle.flow_merge.proofs.flows.flat_map_concat.ConcatenatedRunRun.poll_next.Given as goal

abbrev pub invariant-loop-asked : goal.invariant-loop-asked
invariant-loop-asked g l = record {
  begun : l.initial.self.ended ≡ None;
  going : l.self.ended ≡ None;
  within : Within (Unless l.initial.self.ended (MayConcat (λ x. g.F.Flow.starts (g.G.Apply.gives l.initial.self.function x)) (λ x. g.F.Flow.may (g.G.Apply.gives l.initial.self.function x))
      g.F.Running.Run.may l.initial.self.inner (g.O.Run.may l.initial.self.outer)))
      (Unless l.self.ended (MayConcat (λ x. g.F.Flow.starts (g.G.Apply.gives l.self.function x)) (λ x. g.F.Flow.may (g.G.Apply.gives l.self.function x))
      g.F.Running.Run.may l.self.inner (g.O.Run.may l.self.outer)));
  approaches : IsFinite (count_add (rounds (g.O.Run.polls l.initial.self.outer) g.N.Bound.most) (standing_polls g.F.Running.Run.polls l.initial.self.inner))
      → IsFinite (count_add (rounds (g.O.Run.polls l.self.outer) g.N.Bound.most) (standing_polls g.F.Running.Run.polls l.self.inner))
      × (size (count_add (rounds (g.O.Run.polls l.self.outer) g.N.Bound.most) (standing_polls g.F.Running.Run.polls l.self.inner)) + l._asked
      ≤ size (count_add (rounds (g.O.Run.polls l.initial.self.outer) g.N.Bound.most) (standing_polls g.F.Running.Run.polls l.initial.self.inner)));
  kept : Keeps l.initial.cx l.cx;
}
