use Rattle.value_flows.proofs.flow.ValueFlow.attempt.Goals as goal

pub returns-in-Stopped : goal.returns-in-Stopped
returns-in-Stopped g c = absurd c.in-Stopped.ensures
