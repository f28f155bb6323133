use Rattle.std.proofs.Common.{rules}
use Rattle.shared_lane.proofs.SeatsKept.{joins}
use Rattle.shared_lane.proofs.words.Words.join_reading.Goals as goal

pub join_seat-requires : goal.join_seat-requires
join_seat-requires g c = (search rules, search rules, search rules, search rules, joins _ _ _ _ _ c.requires.reader.2 c.requires.seat.1)
