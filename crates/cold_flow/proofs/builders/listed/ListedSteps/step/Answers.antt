use Rattle.cold_flow.specs.Laws.{drop-at, left-at, led-begins}
use Rattle.cold_flow.specs.Trace.{ended_by, cause_of}
use Rattle.std.proofs.Common.{drop, ◌+◌}
use Rattle.cold_flow.proofs.builders.listed.ListedSteps.step.Goals as goal

pub returns-in-Some-clause-narrows : goal.returns-in-Some-clause-narrows
returns-in-Some-clause-narrows g c t h =
    let now = c.args.self.now in
    let found = c.in-Some.ensures.lookup in
    rw (drop-at now.values.items _ now.next c.in-Some.value.now c.deref.ensures.value found.0 found.1)
    (led-begins c.in-Some.value.now t (ended_by (drop (now.next + 1) now.values.items) (cause_of now.fault)) h)

pub returns-in-Some-clause-approaches : goal.returns-in-Some-clause-approaches
returns-in-Some-clause-approaches g c =
    λ h. (h, left-at _ _ _ c.deref.ensures.value c.in-Some.ensures.lookup.0)
