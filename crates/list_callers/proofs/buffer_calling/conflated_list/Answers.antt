use Rattle.std.proofs.Common.{None, ap, ◌∙◌}
use Rattle.std.proofs.lemmas.Result.{IfOk-weaker}
use Rattle.cold_flow.specs.Laws.{ended-begins}
use Rattle.flow_buffer.specs.Delivery.{latest}
use Rattle.list_callers.proofs.buffer_calling.conflated_list.Goals as goal

pub returns-clause-last : goal.returns-clause-last
returns-clause-last g c =
    IfOk-weaker c.to_list.result _ _ (λ list gave.
    let told = c.conflate-flow.ensures.latest _ _ (c.in_ok-start.ensures.gives _ gave) in
    let whole = ended-begins _ _ _ (c.of.ensures.exact _ told.1) in
    told.2 ∙ ap (λ t. latest None t.0) whole) c.to_list.ensures.gave
