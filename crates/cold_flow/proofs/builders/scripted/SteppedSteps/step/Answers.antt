use Rattle.cold_flow.specs.Laws.{drop-at, left-at}
use Rattle.cold_flow.specs.ScriptedLaws.{step_narrows, step_approaches, step_prompt}
use Rattle.cold_flow.proofs.builders.scripted.SteppedSteps.step.Goals as goal

pub returns-in-Some-clause-narrows : goal.returns-in-Some-clause-narrows
returns-in-Some-clause-narrows g c =
    let now = c.args.self.now in
    let found = c.in-Some.ensures.lookup in
    step_narrows _ _ _ (drop-at now.steps.items _ now.next c.in-Some.step.now c.deref.ensures.value found.0 found.1)

pub returns-in-Some-clause-approaches : goal.returns-in-Some-clause-approaches
returns-in-Some-clause-approaches g c =
    step_approaches c.in-Some.step.now _ _ (left-at _ _ _ c.deref.ensures.value c.in-Some.ensures.lookup.0)

pub returns-in-Some-clause-prompt : goal.returns-in-Some-clause-prompt
returns-in-Some-clause-prompt g c =
    let now = c.args.self.now in
    let found = c.in-Some.ensures.lookup in
    step_prompt _ _ _ (drop-at now.steps.items _ now.next c.in-Some.step.now c.deref.ensures.value found.0 found.1)
