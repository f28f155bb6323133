use Rattle.shared_lane.proofs.words.Words.hand_out.Given as goal

abbrev pub ghosts-split_reader : goal.ghosts-split_reader
ghosts-split_reader g a = record { number = a.place }
