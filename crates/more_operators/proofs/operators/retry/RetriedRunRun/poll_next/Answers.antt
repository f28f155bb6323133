use Rattle.std.proofs.Common.{rules, arith, ◌≡◌, ◌+◌, ◌-◌, true, false, sym, ◌∙◌, inl, inr}
use Rattle.cold_flow.specs.LoopLaws.{going_rests}
use Rattle.more_operators.specs.Retry.{by_attempt}
use Rattle.more_operators.specs.RetryLaws.{retry_gives, retry_waits, retry_ends, retry_restarts, retry_refused, retry_approaches, restart_approaches}
use Rattle.more_operators.proofs.operators.retry.RetriedRunRun.poll_next.Goals as goal

pub returns-in-Ready-Value-clause-narrows : goal.returns-in-Ready-Value-clause-narrows
returns-in-Ready-Value-clause-narrows g c =
    let was = c.args.self.now in
    let came = rw c.in-Ready-Value.field-0-is at c.in-Ready-Value.ensures.narrows in
    rw c.in_default.is
    (retry_gives (by_attempt (g.G.Again.follows was.test) was.times) (g.F.Flow.starts was.source) (g.F.Flow.may was.source) was.left (g.F.Running.Run.may was.run)
    (g.F.Running.Run.may c.poll_next.new.self) c.in-Ready-Value.value came)

pub returns-in-Ready-Value-clause-approaches : goal.returns-in-Ready-Value-clause-approaches
returns-in-Ready-Value-clause-approaches g c =
    let was = c.args.self.now in
    retry_approaches was.left (g.F.Flow.polls was.source) (g.F.Running.Run.polls was.run) (g.F.Running.Run.polls c.poll_next.new.self)
    (rw c.in-Ready-Value.field-0-is at c.in-Ready-Value.ensures.approaches)

pub returns-in-Pending-clause-narrows : goal.returns-in-Pending-clause-narrows
returns-in-Pending-clause-narrows g c =
    let was = c.args.self.now in
    rw c.in_default.is
    (retry_waits (by_attempt (g.G.Again.follows was.test) was.times) (g.F.Flow.starts was.source) (g.F.Flow.may was.source) was.left (g.F.Running.Run.may was.run)
    (g.F.Running.Run.may c.poll_next.new.self) c.in-Pending.ensures.narrows)

pub returns-in-Pending-clause-approaches : goal.returns-in-Pending-clause-approaches
returns-in-Pending-clause-approaches g c =
    let was = c.args.self.now in
    retry_approaches was.left (g.F.Flow.polls was.source) (g.F.Running.Run.polls was.run) (g.F.Running.Run.polls c.poll_next.new.self)
    c.in-Pending.ensures.approaches

pub returns-in-Pending-clause-polled : goal.returns-in-Pending-clause-polled
returns-in-Pending-clause-polled g c = (inl c.in-Pending.ensures.polled, going_rests _ _ _ c.in_default.is)

pub returns-in-Ok-clause-narrows : goal.returns-in-Ok-clause-narrows
returns-in-Ok-clause-narrows g c =
    let was = c.args.self.now in
    let came = rw c.in-Ready-End.field-0-is at c.in-Ready-End.ensures.narrows in
    let follows : c.is_retried.result ≡ true = search rules in
    let one : was.left ≡ was.left - 1 + 1 = omega (arith, c.is_retried.ensures.positive follows) in
    rw (c.yield_now.ensures.pending, c.in_default.is)
    (retry_restarts (by_attempt (g.G.Again.follows was.test) was.times) (g.F.Flow.starts was.source) (g.F.Flow.may was.source) was.left (was.left - 1) (g.F.Running.Run.may was.run)
    (g.F.Running.Run.may c.in-Ok.run') c.in-Ready-End.cause (sym c.is_retried.ensures.retried ∙ follows) one came c.in-Ok.ensures.gives)

pub returns-in-Err-clause-narrows : goal.returns-in-Err-clause-narrows
returns-in-Err-clause-narrows g c =
    let was = c.args.self.now in
    let came = rw c.in-Ready-End.field-0-is at c.in-Ready-End.ensures.narrows in
    let follows : c.is_retried.result ≡ true = search rules in
    rw (c.in_default.is, c.in-Err.ensures.refused)
    (retry_refused (by_attempt (g.G.Again.follows was.test) was.times) (g.F.Flow.starts was.source) (g.F.Flow.may was.source) was.left (g.F.Running.Run.may was.run)
    c.in-Ready-End.cause (sym c.is_retried.ensures.retried ∙ follows) c.in-Err.ensures.starts came)

pub returns-in-Ok-clause-approaches : goal.returns-in-Ok-clause-approaches
returns-in-Ok-clause-approaches g c =
    let was = c.args.self.now in
    let follows : c.is_retried.result ≡ true = search rules in
    let one : was.left ≡ was.left - 1 + 1 = omega (arith, c.is_retried.ensures.positive follows) in
    rw c.yield_now.ensures.pending
    (restart_approaches was.left (was.left - 1) (g.F.Flow.polls was.source) (g.F.Running.Run.polls was.run) (g.F.Running.Run.polls c.in-Ok.run') one c.in-Ok.ensures.lasts)

pub returns-in-Ok-clause-polled : goal.returns-in-Ok-clause-polled
returns-in-Ok-clause-polled g c =
    let was = c.args.self.now in
    let follows : c.is_retried.result ≡ true = search rules in
    let one : was.left - 1 + 1 ≡ was.left = omega (arith, c.is_retried.ensures.positive follows) in
    rw c.yield_now.ensures.pending (inr one, going_rests _ _ _ c.in_default.is)

pub returns-then-not-is_retried-clause-narrows : goal.returns-then-not-is_retried-clause-narrows
returns-then-not-is_retried-clause-narrows g c =
    let was = c.args.self.now in
    let came = rw c.in-Ready-End.field-0-is at c.in-Ready-End.ensures.narrows in
    let other : c.is_retried.result ≡ false = search rules in
    rw c.in_default.is
    (retry_ends (by_attempt (g.G.Again.follows was.test) was.times) (g.F.Flow.starts was.source) (g.F.Flow.may was.source) was.left (g.F.Running.Run.may was.run)
    c.in-Ready-End.cause (sym c.is_retried.ensures.retried ∙ other) came)
