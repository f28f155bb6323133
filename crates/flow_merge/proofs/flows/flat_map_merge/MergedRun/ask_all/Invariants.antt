use Rattle.std.proofs.Common.{◌≡◌, ◌+◌, ◌-◌, ◌*◌, ◌<◌, ◌≤◌, None, IsTrue, vec_len, if◌then◌else◌}
use Rattle.futures.specs.Task.{IsArmed, Keeps}
use Rattle.cold_flow.specs.Poll.{Within}
use Rattle.flow_merge.specs.Merge.{MayStillMerge}
use Rattle.flow_merge.proofs.flows.flat_map_merge.MergedRun.ask_all.Given as goal

abbrev pub invariant-questions : goal.invariant-questions
invariant-questions g l = record {
  going : l.self.ended ≡ None;
  within : Within (MayStillMerge l.initial.self.ended l.initial.self.limit (λ x. g.F.Flow.may (g.G.Apply.gives l.initial.self.function x)) g.F.Running.Run.may
      l.initial.self.runs.items l.initial.self.outer_finished (g.O.Run.may l.initial.self.outer))
      (MayStillMerge l.self.ended l.self.limit (λ x. g.F.Flow.may (g.G.Apply.gives l.self.function x)) g.F.Running.Run.may
      l.self.runs.items l.self.outer_finished (g.O.Run.may l.self.outer));
  asked : l.asked ≤ vec_len l.self.runs;
  heard : 0 < l.asked → IsArmed l.cx;
  outer_heard : IsTrue l.outer_waits → IsArmed l.cx;
  kept : Keeps l.initial.cx l.cx;
}

abbrev pub decreases-questions : goal.decreases-questions
decreases-questions g l = (64 - l.unanswered) * (l.self.limit + 2) + (vec_len l.self.runs - l.asked) + (if l.outer_waits then 0 else 1)
