use Rattle.more_operators.specs.RetryLaws.{retries-exactly, retries-begin, by-fault}
use Rattle.more_operators.proofs.operators.retry.retry.Goals as goal

pub returns-clause-exact : goal.returns-clause-exact
returns-clause-exact g c whole fixed t h =
    let test = g.G.Apply.gives c.args.test in
    by-fault (λ _. test) whole test c.args.times t
    (retries-exactly (λ _. test) (g.F.Flow.starts c.args.source) (g.F.Flow.may c.args.source) whole fixed c.args.times t h)

pub returns-clause-fixed : goal.returns-clause-fixed
returns-clause-fixed g c can whole fixed =
    retries-begin (λ _. g.G.Apply.gives c.args.test) (g.F.Flow.starts c.args.source) (g.F.Flow.may c.args.source) whole fixed can c.args.times
