use Rattle.std.proofs.Common.{rules}
use Rattle.state_flow.proofs.CountSteps.{ends}
use Rattle.state_flow.proofs.flow.StateFlow.end.Goals as goal

pub fetch_sub-requires : goal.fetch_sub-requires
fetch_sub-requires g c = (search rules, search rules, ends g.T.Word.word g.T.Word.fits _ _ _ _ (search rules) c.requires.has_share)
