use Rattle.std.proofs.Common.{rules}
use Rattle.state_flow.proofs.Calls.{compared_says, compared_alone, compared_history}
use Rattle.state_flow.proofs.ValueSteps.{compares, apart_by}
use Rattle.state_flow.proofs.flow.StateFlow.compare_exchange.Goals as goal

pub compare_exchange-found-requires : goal.compare_exchange-found-requires
compare_exchange-found-requires g c = (
  search rules,
  search rules,
  compares g.T.Word.word g.T.Word.fits (apart_by g.T.Word.word g.T.Word.read_as g.T.Word.fits g.met.T.Word.undoes) _ _ _ _ _ _ c.args.expect c.args.update c.requires.has_share c.to_word-expected.ensures.word c.to_word-new.ensures.word c.to_word-expected.ensures.fits c.to_word-new.ensures.fits,
)

pub returns-clause-value : goal.returns-clause-value
returns-clause-value g c = compared_says g.T.Word.word g.T.Word.fits (apart_by g.T.Word.word g.T.Word.read_as g.T.Word.fits g.met.T.Word.undoes) _ _ _ _ _ c.args.expect c.args.update c.to_word-expected.ensures.fits c.to_word-new.ensures.fits c.to_word-expected.ensures.word c.to_word-new.ensures.word c.compare_exchange-found.ensures.2

pub returns-clause-alone : goal.returns-clause-alone
returns-clause-alone g c = compared_alone g.T.Word.word g.T.Word.fits (apart_by g.T.Word.word g.T.Word.read_as g.T.Word.fits g.met.T.Word.undoes) _ _ _ _ _ c.args.expect c.args.update c.to_word-expected.ensures.fits c.to_word-new.ensures.fits c.to_word-expected.ensures.word c.to_word-new.ensures.word c.compare_exchange-found.ensures.2

pub returns-clause-history : goal.returns-clause-history
returns-clause-history g c = compared_history g.T.Word.word g.T.Word.fits (apart_by g.T.Word.word g.T.Word.read_as g.T.Word.fits g.met.T.Word.undoes) _ _ c.args.expect c.args.update _
    (compared_says g.T.Word.word g.T.Word.fits (apart_by g.T.Word.word g.T.Word.read_as g.T.Word.fits g.met.T.Word.undoes) _ _ _ _ _ c.args.expect c.args.update c.to_word-expected.ensures.fits c.to_word-new.ensures.fits c.to_word-expected.ensures.word c.to_word-new.ensures.word c.compare_exchange-found.ensures.2)
