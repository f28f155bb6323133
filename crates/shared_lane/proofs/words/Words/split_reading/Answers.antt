use Rattle.std.proofs.Common.{rules}
use Rattle.shared_lane.proofs.SeatsKept.{parts}
use Rattle.shared_lane.proofs.words.Words.split_reading.Goals as goal

pub split_seat-requires : goal.split_seat-requires
split_seat-requires g c = (search rules, search rules, parts _ _ _ c.requires.1)
