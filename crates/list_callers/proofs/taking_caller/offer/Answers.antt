use Rattle.std.proofs.Common.{Err, inr}
use Rattle.std.proofs.lemmas.Result.{err_from_is_err_and}
use Rattle.list_callers.proofs.Refusals.{offer_spent}
use Rattle.list_callers.proofs.Taking.{took_try}
use Rattle.list_callers.proofs.taking_caller.offer.Goals as goal

pub returns-in-Accepted-clause-offered : goal.returns-in-Accepted-clause-offered
returns-in-Accepted-clause-offered g c = λ p gave took. took_try p c.args.subscription.0 c.try_emit.new.self took 0 c.args.value c.try_emit.result c.try_emit.ensures

pub returns-in_ok-_took-in-Full-clause-offered : goal.returns-in_ok-_took-in-Full-clause-offered
returns-in_ok-_took-in-Full-clause-offered g c = λ p gave took.
    c.in_ok-_took-in-Full.ensures.took p _ (took_try p c.args.subscription.0 c.try_emit.new.self took 0 c.args.value c.try_emit.result c.try_emit.ensures)

pub returns-in_err-try_emit-clause-refused : goal.returns-in_err-try_emit-clause-refused
returns-in_err-try_emit-clause-refused g c =
    let p = err_from_is_err_and c.from_residual.result c.from_residual.ensures.1 in
    rw (p.1, p.2) (λ M shows. inr (offer_spent 0 c.args.value c.args.flow.now c.try_emit.new.self (Err c.in_err-try_emit.field-0.0) M shows c.in_err-try_emit.ensures))
