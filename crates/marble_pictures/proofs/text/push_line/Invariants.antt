use Rattle.marble_pictures.proofs.text.push_line.Given as goal

abbrev pub decreases-loop-missing : goal.decreases-loop-missing
decreases-loop-missing l = l.missing
