use Rattle.std.proofs.Common.{rules}
use Rattle.shared_lane.proofs.SeatsKept.{copies_all}
use Rattle.shared_lane.proofs.words.Words.copy_all.Goals as goal

pub split_seat-requires : goal.split_seat-requires
split_seat-requires g c = (search rules, search rules, copies_all _ _ _)
