use Rattle.value_flows.proofs.Calling.{count_within, holds}
use Rattle.value_flows.proofs.rounds.enter.Goals as goal

pub returns-clause-holds : goal.returns-clause-holds
returns-clause-holds g c = holds c.args.lock.now c.take.new.self c.take.result.state c.take.ensures.taken c.take.ensures.saw

pub returns-clause-count : goal.returns-clause-count
returns-clause-count g c =
    let ring = c.take.result.state in
    count_within c.args.lock.now ring c.take.new.self (holds c.args.lock.now c.take.new.self ring c.take.ensures.taken c.take.ensures.saw)
