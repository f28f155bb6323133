use Rattle.round_lock.proofs.lock.Lock.take_in.Given as goal

abbrev pub ghosts-absorb : goal.ghosts-absorb
ghosts-absorb g a = record { number = a.other.id }
