use Rattle.std.proofs.Common.{rules}
use Rattle.state_flow.proofs.CountSteps.{begins}
use Rattle.state_flow.proofs.flow.StateFlow.begin.Goals as goal

pub fetch_add-requires : goal.fetch_add-requires
fetch_add-requires g c = (search rules, search rules, begins g.T.Word.word g.T.Word.fits _ _ _ _ (search rules) c.requires.runs_none (search rules))
