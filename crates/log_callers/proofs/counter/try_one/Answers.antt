use Rattle.std.proofs.Common.{Ok}
use Rattle.shared_flow.specs.Emitted.{outcome_of_try}
use Rattle.log_callers.proofs.Counting.{counts_one}
use Rattle.log_callers.proofs.counter.try_one.Goals as goal

pub returns-clause-counted : goal.returns-clause-counted
returns-clause-counted g c =
    counts_one c.args.emitter.now c.try_emit.new.self c.args.value (outcome_of_try (Ok c.in_ok-tried.tried)) c.accepted_part.result c.in_ok-tried.ensures.has c.accepted_part.ensures
