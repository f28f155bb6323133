use Rattle.std.proofs.Common.{rules}
use Rattle.shared_lane.proofs.SeatsKept.{hears_end}
use Rattle.shared_lane.proofs.words.Words.hear_end.Goals as goal

pub join_seat-requires : goal.join_seat-requires
join_seat-requires g c = (search rules, search rules, search rules, search rules, hears_end _ _ _ _ _ c.requires.seat.1 c.requires.end.2)
