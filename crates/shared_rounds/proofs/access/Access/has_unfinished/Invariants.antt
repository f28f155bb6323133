use Rattle.std.proofs.Common.{length}
use Rattle.shared_lane.specs.Readers.{at}
use Rattle.shared_rounds.proofs.access.Access.has_unfinished.Given as goal

abbrev pub ghosts-looked : goal.ghosts-looked
ghosts-looked a = record { position = at a.reader.now; rounds = length a.lock.now.log.own }
