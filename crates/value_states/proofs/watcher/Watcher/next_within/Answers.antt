use Rattle.value_states.proofs.watcher.Watcher.next_within.Goals as goal

pub collected-requires : goal.collected-requires
collected-requires g c = (c.args.self.now, c.in-Some.ensures)
