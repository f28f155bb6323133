use Rattle.state_flow.proofs.seat.StateSeat+T+A.take_seat.Given as goal

abbrev pub ghosts-split : goal.ghosts-split
ghosts-split g a = record { part = a.part }
