use Rattle.std.proofs.Common.{rules}
use Rattle.cold_flow.proofs.builders.unfold.UnfoldingSteps.step.Goals as goal

-- A wrong body makes this false: so answered, it is refused at once.
pub returns-in-Next-clause-narrows : goal.returns-in-Next-clause-narrows
returns-in-Next-clause-narrows g c = search rules
