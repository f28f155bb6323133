use Rattle.std.proofs.Common.{rules}
use Rattle.state_flow.proofs.Opening.{seated_first}
use Rattle.state_flow.proofs.Seats.{opens}
use Rattle.state_flow.proofs.flow.StateFlow.made.Goals as goal

pub of_words-requires : goal.of_words-requires
of_words-requires g c = opens g.T.Word.word g.T.Word.fits (c.args.value, c.args.seats) _ c.requires.some c.requires.few c.to_word.ensures.word c.to_word.ensures.fits

-- A wrong body makes this false: so answered, it is refused at once.
pub over-requires : goal.over-requires
over-requires g c = seated_first _ _ c.args.value c.args.seats (search rules) (search rules) c.requires.some c.requires.few
