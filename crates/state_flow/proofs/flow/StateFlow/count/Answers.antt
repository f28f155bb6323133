use Rattle.std.proofs.Common.{rules}
use Rattle.state_flow.proofs.CountSteps.{tallies}
use Rattle.state_flow.proofs.flow.StateFlow.count.Goals as goal

pub load-found-requires : goal.load-found-requires
load-found-requires g c = (search rules, search rules, tallies g.T.Word.word g.T.Word.fits _ _ _ _ c.requires.has_share)
