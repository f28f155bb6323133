use Rattle.std.proofs.Common.{refl, ◌∙◌}
use Rattle.paired_states.proofs.Asking.{missed_none, missed_after}
use Rattle.paired_states.proofs.waiting.look_on.Goals as goal

pub looks-init : goal.looks-init
looks-init g c = record { first_flow = refl; second_flow = refl; first_missed = missed_none _; second_missed = missed_none _ }

pub looks-preserved : goal.looks-preserved
looks-preserved g c =
    let it = c.looks.invariant in
    let asked = c.in_default.ensures.asked in
    record {
      first_flow = c.ask.ensures.same_flow.0 ∙ it.first_flow;
      second_flow = c.ask.ensures.same_flow.1 ∙ it.second_flow;
      first_missed = missed_after _ _ _ it.first_missed asked.0;
      second_missed = missed_after _ _ _ it.second_missed asked.1;
    }

pub returns-in-Some-clause-asked : goal.returns-in-Some-clause-asked
returns-in-Some-clause-asked g c =
    let it = c.looks.invariant in
    let asked = c.in-Some.ensures.asked in
    ((_, it.first_missed, asked.0.0), (_, it.second_missed, asked.0.1), asked.1)
