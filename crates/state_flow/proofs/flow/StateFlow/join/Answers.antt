use Rattle.std.proofs.Common.{rules}
use Rattle.state_flow.proofs.Seats.{joins}
use Rattle.state_flow.proofs.flow.StateFlow.join.Goals as goal

pub join_seat-requires : goal.join_seat-requires
join_seat-requires g c = (search rules, search rules, search rules, search rules, joins g.T.Word.word g.T.Word.fits _ _ _ _ _ c.requires.has_share (search rules) (search rules) (search rules) c.requires.runs_none)
