use Rattle.std.proofs.Common.{rules}
use Rattle.state_flow.proofs.Calls.{put_alone, put_history}
use Rattle.state_flow.proofs.ValueSteps.{puts, apart_by}
use Rattle.state_flow.proofs.flow.StateFlow.swap.Goals as goal

pub swap-requires : goal.swap-requires
swap-requires g c = (search rules, search rules, puts g.T.Word.word g.T.Word.fits (apart_by g.T.Word.word g.T.Word.read_as g.T.Word.fits g.met.T.Word.undoes) _ _ _ _ _ c.args.value c.requires.has_share c.to_word-word.ensures.word c.to_word-word.ensures.fits)

pub returns-clause-alone : goal.returns-clause-alone
returns-clause-alone g c = put_alone g.T.Word.word g.T.Word.fits (apart_by g.T.Word.word g.T.Word.read_as g.T.Word.fits g.met.T.Word.undoes) _ _ _ _ c.args.value c.to_word-word.ensures.fits c.to_word-word.ensures.word c.swap.ensures.2

pub returns-clause-history : goal.returns-clause-history
returns-clause-history g c = put_history g.T.Word.word g.T.Word.fits (apart_by g.T.Word.word g.T.Word.read_as g.T.Word.fits g.met.T.Word.undoes) _ _ _ _ c.args.value c.to_word-word.ensures.fits c.to_word-word.ensures.word c.swap.ensures.2
