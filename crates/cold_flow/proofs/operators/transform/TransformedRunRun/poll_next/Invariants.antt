use Rattle.std.proofs.Common.{◌≡◌, ◌+◌, ◌≤◌, None}
use Rattle.std.specs.Iterator.{IsFinite, size}
use Rattle.futures.specs.Task.{Keeps}
use Rattle.flow_terms.specs.declared.few.Few.TheVariants.{Zero}
use Rattle.cold_flow.specs.Poll.{Through, Within}
use Rattle.cold_flow.specs.Transform.{held_then}
use Rattle.cold_flow.proofs.operators.transform.TransformedRunRun.poll_next.Given as goal

abbrev pub invariant-loop-asked : goal.invariant-loop-asked
invariant-loop-asked g l = record {
  before : l.initial.self.held ≡ Zero;
  held : l.self.held ≡ Zero;
  narrows : Within (Through (held_then (g.G.Apply.gives l.initial.self.function) Zero) (g.S.Run.may l.initial.self.source))
      (Through (held_then (g.G.Apply.gives l.self.function) Zero) (g.S.Run.may l.self.source));
  begun : g.S.Run.ended l.initial.self.source ≡ None;
  going : g.S.Run.ended l.self.source ≡ None;
  approaches : IsFinite (g.S.Run.polls l.initial.self.source) → IsFinite (g.S.Run.polls l.self.source)
      × (size (g.S.Run.polls l.self.source) + l._asked ≤ size (g.S.Run.polls l.initial.self.source));
  kept : Keeps l.initial.cx l.cx;
}
