use Rattle.std.proofs.Common.{refl, ◌∙◌}
use Rattle.paired_states.proofs.Asking.{missed_none, missed_after}
use Rattle.paired_states.proofs.waiting.wait.Goals as goal

pub turns-init : goal.turns-init
turns-init g c = record { first_flow = refl; second_flow = refl; first_missed = missed_none _; second_missed = missed_none _ }

pub turns-preserved : goal.turns-preserved
turns-preserved g c =
    let it = c.turns.invariant in
    let asked = c.in_default.ensures.asked in
    record {
      first_flow = c.ask.ensures.same_flow.0 ∙ it.first_flow;
      second_flow = c.ask.ensures.same_flow.1 ∙ it.second_flow;
      first_missed = missed_after _ _ _ it.first_missed asked.0;
      second_missed = missed_after _ _ _ it.second_missed asked.1;
    }

pub returns-in-Some-ask-clause-asked : goal.returns-in-Some-ask-clause-asked
returns-in-Some-ask-clause-asked g c =
    let it = c.turns.invariant in
    let asked = c.in-Some-ask.ensures.asked in
    ((_, it.first_missed, asked.0.0), (_, it.second_missed, asked.0.1), asked.1)

pub returns-then-is_let_go-clause-asked : goal.returns-then-is_let_go-clause-asked
returns-then-is_let_go-clause-asked g c =
    let it = c.turns.invariant in
    let asked = c.in_default.ensures.asked in
    ((_, it.first_missed, asked.0), (_, it.second_missed, asked.1))
