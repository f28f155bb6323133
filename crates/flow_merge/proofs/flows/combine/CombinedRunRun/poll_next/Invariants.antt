use Rattle.std.proofs.Common.{◌≡◌, ◌+◌, ◌-◌, ◌*◌, None, IsTrue, if◌then◌else◌}
use Rattle.std.specs.Iterator.{count_add}
use Rattle.futures.specs.Task.{Keeps}
use Rattle.cold_flow.specs.Poll.{Within, Unless}
use Rattle.cold_flow.specs.Polled.{IsNearer}
use Rattle.flow_merge.specs.Combine.{MayCombine, OrFinished, OtherWaited}
use Rattle.flow_merge.specs.Side.{side_polls}
use Rattle.flow_merge.proofs.flows.combine.CombinedRunRun.poll_next.Given as goal

abbrev pub invariant-turns : goal.invariant-turns
invariant-turns g l = record {
  begun : l.initial.self.ended ≡ None;
  going : l.self.ended ≡ None;
  within : Within (Unless l.initial.self.ended (MayCombine (g.G.Apply.gives l.initial.self.function) (g.A.Run.prompt l.initial.self.left.run) (g.B.Run.prompt l.initial.self.right.run)
      l.initial.self.turn l.initial.self.left.latest l.initial.self.right.latest
      (OrFinished l.initial.self.left.finished (g.A.Run.may l.initial.self.left.run)) (OrFinished l.initial.self.right.finished (g.B.Run.may l.initial.self.right.run))))
      (Unless l.self.ended (MayCombine (g.G.Apply.gives l.self.function) (g.A.Run.prompt l.self.left.run) (g.B.Run.prompt l.self.right.run) l.self.turn l.self.left.latest l.self.right.latest
      (OrFinished l.self.left.finished (g.A.Run.may l.self.left.run)) (OrFinished l.self.right.finished (g.B.Run.may l.self.right.run))));
  approaches : IsNearer l.unanswered
      (count_add (side_polls l.initial.self.left.finished (g.A.Run.polls l.initial.self.left.run)) (side_polls l.initial.self.right.finished (g.B.Run.polls l.initial.self.right.run)))
      (count_add (side_polls l.self.left.finished (g.A.Run.polls l.self.left.run)) (side_polls l.self.right.finished (g.B.Run.polls l.self.right.run)));
  waited : IsTrue l.waited → OtherWaited g.A.Run.polled g.B.Run.polled l.self.turn l.self.left.run l.self.right.run;
  kept : Keeps l.initial.cx l.cx;
}

abbrev pub decreases-turns : goal.decreases-turns
decreases-turns g l = 2 * (64 - l.unanswered) + (if l.waited then 0 else 1)
