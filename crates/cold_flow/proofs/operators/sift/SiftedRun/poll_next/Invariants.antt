use Rattle.std.proofs.Common.{◌≡◌, ◌+◌, ◌≤◌, None}
use Rattle.std.specs.Iterator.{IsFinite, size}
use Rattle.futures.specs.Task.{Keeps}
use Rattle.cold_flow.specs.Trace.{on_values}
use Rattle.cold_flow.specs.Poll.{Through, Within}
use Rattle.cold_flow.specs.PassingLaws.{LeftOut}
use Rattle.cold_flow.proofs.operators.sift.SiftedRun.poll_next.Given as goal

abbrev pub invariant-loop-asked : goal.invariant-loop-asked
invariant-loop-asked g l = record {
  narrows : Within (Through (on_values (g.M.Sift.passes l.initial.self.sift)) (g.S.Run.may l.initial.self.source))
      (Through (on_values (g.M.Sift.passes l.self.sift)) (g.S.Run.may l.self.source));
  begun : g.S.Run.ended l.initial.self.source ≡ None;
  going : g.S.Run.ended l.self.source ≡ None;
  approaches : IsFinite (g.S.Run.polls l.initial.self.source) → IsFinite (g.S.Run.polls l.self.source)
      × (size (g.S.Run.polls l.self.source) + l._asked ≤ size (g.S.Run.polls l.initial.self.source));
  left_out : LeftOut g.S.Run.polled g.M.Sift.passes l.initial.self.sift l.initial.self.source l.self.sift l.self.source l._asked;
  kept : Keeps l.initial.cx l.cx;
}
