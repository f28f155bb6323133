use Rattle.std.proofs.Common.{sym, subst}
use Rattle.list_callers.specs.Taking.{Took}
use Rattle.list_callers.proofs.Taking.{took_value, took_nothing}
use Rattle.list_callers.proofs.taking_caller.take_one.Goals as goal

pub returns-in_ok-push-in-Value-clause-took : goal.returns-in_ok-push-in-Value-clause-took
returns-in_ok-push-in-Value-clause-took g c = λ p gave took.
    subst (Took p c.args.subscription.0 c.next.new.self gave) (sym c.in_ok-push-in-Value.ensures.items)
    (took_value p c.args.subscription.0 c.next.new.self took c.in-Value.value c.in-Value.ensures)

pub returns-in-Nothing-clause-took : goal.returns-in-Nothing-clause-took
returns-in-Nothing-clause-took g c = λ p gave took. took_nothing p c.args.subscription.0 c.next.new.self took c.next.result c.in-Nothing.is c.next.ensures
