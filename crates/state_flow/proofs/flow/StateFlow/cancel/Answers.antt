use Rattle.std.proofs.Common.{rules}
use Rattle.state_flow.proofs.CountSteps.{cancels}
use Rattle.state_flow.proofs.flow.StateFlow.cancel.Goals as goal

pub fetch_sub-requires : goal.fetch_sub-requires
fetch_sub-requires g c = (search rules, search rules, cancels g.T.Word.word g.T.Word.fits _ _ _ _ c.requires.runs c.requires.has_share)
