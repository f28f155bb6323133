use Rattle.std.proofs.Common.{[]}
use Rattle.std.proofs.lemmas.Result.{err_from_is_err_and}
use Rattle.cold_flow.specs.Polled.Gave.{nothing}
use Rattle.hot_sources.proofs.waiting.take_list.Goals as goal

-- no parker: nothing was taken
pub returns-in_err-parker-clause-refused : goal.returns-in_err-parker-clause-refused
returns-in_err-parker-clause-refused g c =
    let p = err_from_is_err_and c.from_residual.result c.from_residual.ensures.1 in
    rw (p.1, p.2) (c.in_err-parker.ensures, ([], nothing))
