use Rattle.std.proofs.Common.{rules}
use Rattle.state_flow.proofs.ValueSteps.{loads, apart_by}
use Rattle.state_flow.proofs.flow.StateFlow.load.Goals as goal

pub load-word-requires : goal.load-word-requires
load-word-requires g c = (search rules, search rules, loads g.T.Word.word g.T.Word.fits (apart_by g.T.Word.word g.T.Word.read_as g.T.Word.fits g.met.T.Word.undoes) _ _ _ _ c.requires.has_share)
