use Rattle.std.proofs.Common.{rules}
use Rattle.shared_lane.proofs.ReaderKept.{notices}
use Rattle.shared_lane.proofs.words.Words.load_tail.Goals as goal

pub load-requires : goal.load-requires
load-requires g c = (search rules, search rules, notices _ _ _ _ (search rules))
