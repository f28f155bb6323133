use Rattle.more_operators.specs.Retry.{by_attempt}
use Rattle.more_operators.specs.RetryLaws.{retry_waits, start_lasts}
use Rattle.more_operators.proofs.operators.retry.RetriedFlow.start.Goals as goal

pub returns-clause-gives : goal.returns-clause-gives
returns-clause-gives g c =
    let was = c.args.self.now in
    let again = g.F.Flow.may was.source in
    retry_waits (by_attempt (g.G.Again.follows was.test) was.times) (g.F.Flow.starts was.source) again was.times again
    (g.F.Running.Run.may c.in_ok-start.field-0) c.in_ok-start.ensures.gives

pub returns-clause-lasts : goal.returns-clause-lasts
returns-clause-lasts g c =
    start_lasts c.args.self.now.times (g.F.Flow.polls c.args.self.now.source) (g.F.Running.Run.polls c.in_ok-start.field-0) c.in_ok-start.ensures.lasts
