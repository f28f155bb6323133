use Rattle.value_states.proofs.Given.{keeps_none}
use Rattle.value_states.proofs.watcher.Watcher.over.Goals as goal

pub invariant_of-result : goal.invariant_of-result
invariant_of-result g c = keeps_none c.args.lock c.requires
