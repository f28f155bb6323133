use Rattle.shared_lane.proofs.words.Words.store_cell.Given as goal

abbrev pub ghosts-fill : goal.ghosts-fill
ghosts-fill g a = record { number = a.emitter }
