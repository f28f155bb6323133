use Rattle.std.proofs.lemmas.Result.{err_from_is_err_and}
use Rattle.hot_sources.proofs.Made.{refused_by}
use Rattle.hot_sources.proofs.mixing.state_and_flow.Goals as goal

pub returns-in_err-emitter-clause-refused : goal.returns-in_err-emitter-clause-refused
returns-in_err-emitter-clause-refused g c =
    let p = err_from_is_err_and c.from_residual-in_err-emitter.result c.from_residual-in_err-emitter.ensures.1 in
    rw (p.1, p.2) (refused_by _ _ _ _ _ c.in_err-emitter.ensures.refused c.in_err-emitter.ensures.limits)
