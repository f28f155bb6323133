use Rattle.value_states.proofs.watcher.Watcher.try_read_next.Goals as goal

pub give-requires : goal.give-requires
give-requires g c = (c.args.self.now, c.in-Some.ensures.taken)

pub returns-in-Some-clause-given : goal.returns-in-Some-clause-given
returns-in-Some-clause-given g c = (c.in-Some.guarded.state.value, c.give.ensures c.args.self.now c.in-Some.ensures.taken, c.shown-answer.ensures)
