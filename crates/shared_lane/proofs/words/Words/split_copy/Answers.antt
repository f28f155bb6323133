use Rattle.std.proofs.Common.{rules}
use Rattle.shared_lane.proofs.SeatsKept.{copies}
use Rattle.shared_lane.proofs.words.Words.split_copy.Goals as goal

pub split_seat-requires : goal.split_seat-requires
split_seat-requires g c = (search rules, search rules, copies _ _ _ _)
