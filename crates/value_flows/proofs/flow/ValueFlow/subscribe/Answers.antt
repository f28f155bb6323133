use Rattle.std.proofs.Common.{ap}
use Rattle.value_flows.proofs.Passing.{keeps_opened}
use Rattle.value_flows.proofs.flow.ValueFlow.subscribe.Goals as goal

pub over-requires : goal.over-requires
over-requires g c = keeps_opened c.in_ok-lock.lock c.begin.new.lock c.in-Some.place c.in-Some.start (ap (λ log. log.own) c.in_ok-lock.ensures.other.0) c.in-Some.ensures.begun
