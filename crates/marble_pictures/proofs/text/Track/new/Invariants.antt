use Rattle.std.proofs.Common.{length}
use Rattle.marble_pictures.proofs.text.Track.new.Given as goal

abbrev pub decreases-loop-left : goal.decreases-loop-left
decreases-loop-left l = length l.left
