use Rattle.std.proofs.Common.{rules}
use Rattle.shared_lane.proofs.SeatsKept.{starts_shut}
use Rattle.shared_lane.proofs.words.Words.new.Goals as goal

pub of_words-requires : goal.of_words-requires
of_words-requires g c = starts_shut _ _ (search rules) (search rules) (search rules) (search rules) (search rules)
