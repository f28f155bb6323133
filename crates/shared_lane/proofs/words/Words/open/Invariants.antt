use Rattle.shared_lane.proofs.words.Words.open.Given as goal

abbrev pub ghosts-open_as : goal.ghosts-open_as
ghosts-open_as g a = record { number = a.opening }
