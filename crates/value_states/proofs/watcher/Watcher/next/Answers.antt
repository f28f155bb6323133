use Rattle.value_states.proofs.watcher.Watcher.next.Goals as goal

pub collected-requires : goal.collected-requires
collected-requires g c = (c.args.self.now, c.awaited-outcome.ensures)

pub returns : goal.returns
returns g c = c.collected.ensures c.args.self.now c.awaited-outcome.ensures
