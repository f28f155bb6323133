use Rattle.std.proofs.Common.{rules}
use Rattle.state_flow.proofs.Seats.{splits}
use Rattle.state_flow.proofs.flow.StateFlow.split.Goals as goal

pub split_seat-requires : goal.split_seat-requires
split_seat-requires g c = (search rules, search rules, splits g.T.Word.word g.T.Word.fits _ _ _ _ (search rules) (search rules) (search rules) c.requires.runs_none)
