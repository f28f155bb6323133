use Rattle.shared_lane.proofs.words.Words.store_next_cell.Given as goal

abbrev pub ghosts-fill_next : goal.ghosts-fill_next
ghosts-fill_next g a = record { number = a.emitter }
