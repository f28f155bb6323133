use Rattle.calling_sources.specs.CallingLaws.{once-after, once-fails}
use Rattle.calling_sources.proofs.code.CalledSteps.step.Goals as goal

pub returns-in-Value-clause-narrows : goal.returns-in-Value-clause-narrows
returns-in-Value-clause-narrows g c = rw c.if-self.false (once-after (g.C.Call.answers c.args.self.now.code) _ c.in-Value.ensures.answers)

pub returns-in-Fail-clause-narrows : goal.returns-in-Fail-clause-narrows
returns-in-Fail-clause-narrows g c = rw c.if-self.false (once-fails (g.C.Call.answers c.args.self.now.code) _ c.in-Fail.ensures.answers)
