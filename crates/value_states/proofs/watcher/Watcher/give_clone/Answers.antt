use Rattle.value_states.proofs.watcher.Watcher.give_clone.Goals as goal

pub give-requires : goal.give-requires
give-requires g c = c.requires

pub pass-requires : goal.pass-requires
pass-requires g c = (c.requires.0, c.requires.1.holds)

pub returns-in-Ok-clause-given : goal.returns-in-Ok-clause-given
returns-in-Ok-clause-given g c = (c.in-Ok.ensures.cases, c.give.ensures)

pub returns-in-Err-clause-refused : goal.returns-in-Err-clause-refused
returns-in-Err-clause-refused g c = (c.in-Err.ensures.cases, λ before takes. c.pass.ensures before takes.holds)
