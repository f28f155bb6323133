use Rattle.value_states.proofs.watcher.Watcher.try_next.Goals as goal

pub give_clone-requires : goal.give_clone-requires
give_clone-requires g c = (c.args.self.now, c.in-Some.ensures.taken)
