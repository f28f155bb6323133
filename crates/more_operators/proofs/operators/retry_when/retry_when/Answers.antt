use Rattle.more_operators.specs.Retry.{by_attempt}
use Rattle.more_operators.specs.RetryLaws.{retries-exactly, retries-begin}
use Rattle.more_operators.proofs.operators.retry_when.retry_when.Goals as goal

pub returns-clause-exact : goal.returns-clause-exact
returns-clause-exact g c whole fixed =
    retries-exactly (by_attempt (g.G.Again.follows c.args.test) c.args.times) (g.F.Flow.starts c.args.source) (g.F.Flow.may c.args.source) whole fixed c.args.times

pub returns-clause-fixed : goal.returns-clause-fixed
returns-clause-fixed g c can whole fixed =
    retries-begin (by_attempt (g.G.Again.follows c.args.test) c.args.times) (g.F.Flow.starts c.args.source) (g.F.Flow.may c.args.source) whole fixed can c.args.times
