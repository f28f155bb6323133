use Rattle.std.proofs.Common.{refl}
use Rattle.std.proofs.lemmas.Result.{IfOk-weaker}
use Rattle.cold_flow.specs.Laws.{ended-begins}
use Rattle.list_callers.proofs.buffer_calling.buffered_list.Goals as goal

pub returns-clause-whole : goal.returns-clause-whole
returns-clause-whole g c =
    let fixed = c.in_ok-flow.ensures.exact refl _ c.of.ensures.exact in
    IfOk-weaker c.to_list.result _ _ (λ list gave. ended-begins _ _ _ (fixed _ (c.in_ok-start.ensures.gives _ gave))) c.to_list.ensures.gave
