use Rattle.value_states.proofs.Calling.{holds}
use Rattle.value_states.proofs.rounds.enter.Goals as goal

pub returns : goal.returns
returns g c = holds c.args.lock.now c.take.new.self c.take.result.state c.take.ensures.taken c.take.ensures.saw
