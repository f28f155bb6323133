use Rattle.std.proofs.Common.{rules}
use Rattle.shared_lane.proofs.SequencerKept.{accepts}
use Rattle.shared_lane.proofs.words.Words.store_tail.Goals as goal

pub store-requires : goal.store-requires
store-requires g c = (search rules, search rules, accepts _ _ _ _ _ (search rules) (search rules) c.requires.tail.0 c.requires.tail.1)
