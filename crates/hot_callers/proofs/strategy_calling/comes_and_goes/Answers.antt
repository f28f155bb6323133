use Rattle.std.proofs.Common.{[], ◌∷◌, ℕ, ap, ◌∙◌}
use Rattle.flow_terms.specs.declared.started.Started.{Started}
use Rattle.sharing_upstream.specs.Strategies.{Look, History, command}
use Rattle.hot_callers.proofs.strategy_calling.comes_and_goes.Goals as goal

abbrev look : ℕ → ℕ → Look
look moment count = record { moment = moment; count = count }

abbrev came : History
came = look 10 1 ∷ []

abbrev gone : History
gone = look 1000 0 ∷ came

abbrev late : History
late = look 1100 0 ∷ gone

pub returns-clause-started : goal.returns-clause-started
returns-clause-started c =
    c.step-came.ensures.commands [] c.new-strategy.ensures.shows ∙ ap (λ (s : Started). command s came) c.new-strategy.ensures.started

pub returns-clause-stopped : goal.returns-clause-stopped
returns-clause-stopped c =
    let one = c.step-came.ensures.shows [] c.new-strategy.ensures.shows in
    let two = c.step.ensures.shows came one in
    let started = c.step.ensures.started ∙ c.step-came.ensures.started ∙ c.new-strategy.ensures.started in
    c.step-stopped.ensures.commands gone two ∙ ap (λ (s : Started). command s late) started

pub returns-clause-reset : goal.returns-clause-reset
returns-clause-reset c =
    let one = c.step-came.ensures.shows [] c.new-strategy.ensures.shows in
    let two = c.step.ensures.shows came one in
    let three = c.step-stopped.ensures.shows gone two in
    let started = c.step-stopped.ensures.started ∙ c.step.ensures.started ∙ c.step-came.ensures.started ∙ c.new-strategy.ensures.started in
    c.step-reset.ensures.commands late three ∙ ap (λ (s : Started). command s (look 1150 0 ∷ late)) started
