use Rattle.std.proofs.Common.{rules}
use Rattle.state_flow.proofs.CountSteps.{launches}
use Rattle.state_flow.proofs.flow.StateFlow.launch.Goals as goal

pub fetch_add-requires : goal.fetch_add-requires
fetch_add-requires g c = (search rules, search rules, launches g.T.Word.word g.T.Word.fits _ _ _ _ c.requires.room)
