use Rattle.std.proofs.Common.{rules}
use Rattle.shared_lane.proofs.SequencerKept.{accepts_all}
use Rattle.shared_lane.proofs.words.Words.store_tail_past.Goals as goal

pub store-requires : goal.store-requires
store-requires g c = (search rules, search rules, accepts_all _ _ _ _ _ (search rules) c.requires.tail.0 c.requires.tail.1)
