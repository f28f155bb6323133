use Rattle.std.proofs.Common.{[]}
use Rattle.shared_rounds.proofs.Flags.{starts}
use Rattle.shared_rounds.proofs.shared.Track.new.Goals as goal

pub of_words-requires : goal.of_words-requires
of_words-requires c = starts []
