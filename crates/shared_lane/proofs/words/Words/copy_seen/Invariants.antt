use Rattle.shared_lane.proofs.words.Words.copy_seen.Given as goal

abbrev pub ghosts-split_copy : goal.ghosts-split_copy
ghosts-split_copy g a = record { number = a.count }
