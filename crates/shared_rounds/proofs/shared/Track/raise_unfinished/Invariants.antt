use Rattle.std.proofs.Common.{length}
use Rattle.shared_rounds.proofs.shared.Track.raise_unfinished.Given as goal

abbrev pub ghosts-raise : goal.ghosts-raise
ghosts-raise a = record { loads = length a.sequencer.now.view.loads }
