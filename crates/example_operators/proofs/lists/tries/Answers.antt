use Rattle.std.proofs.Common.{ℕ, nat_lt}
use Rattle.std.proofs.lemmas.Result.{IfOk-weaker}
use Rattle.cold_flow.specs.declared.cause.Cause.TheVariants.{Failed}
use Rattle.cold_flow.specs.Trace.{ended_by}
use Rattle.more_operators.specs.RetryLaws.{retried-whole}
use Rattle.example_operators.proofs.lists.tries.Goals as goal

pub returns : goal.returns
returns c =
    let passes = λ (found : ℕ). nat_lt found c.args.limit in
    let whole = ended_by c.args.values.items (Failed c.args.fault) in
    IfOk-weaker c.to_list.result _ _
    (λ list h. retried-whole passes c.args.times whole list.values.items list.cause
    (c.retry.ensures.exact whole c.failing-flow.ensures.exact (ended_by list.values.items list.cause)
    (c.in_ok-start.ensures.gives (ended_by list.values.items list.cause) h)))
    c.to_list.ensures.gave
