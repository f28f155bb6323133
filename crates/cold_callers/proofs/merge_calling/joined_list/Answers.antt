use Rattle.std.proofs.lemmas.Result.{IfOk-weaker}
use Rattle.cold_callers.proofs.merge_calling.joined_list.Goals as goal

pub returns : goal.returns
returns g c = λ whole each.
    let joins = c.flat_map_concat.ensures.exact _ whole c.of.ensures.exact each in
    IfOk-weaker c.to_list.result _ _ (λ list gave. joins _ _ (c.within-flow.ensures.gives _ (c.in_ok-start.ensures.gives _ gave))) c.to_list.ensures.gave
