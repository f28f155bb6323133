use Rattle.std.proofs.Common.{rules}
use Rattle.state_flow.proofs.ValueSteps.{gathers, apart_by}
use Rattle.state_flow.proofs.flow.StateFlow.gather.Goals as goal

pub load-requires : goal.load-requires
load-requires g c = (search rules, search rules, gathers g.T.Word.word g.T.Word.fits (apart_by g.T.Word.word g.T.Word.read_as g.T.Word.fits g.met.T.Word.undoes) _ _ _ _ c.requires.has_share)
