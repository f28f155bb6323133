use Rattle.std.proofs.Common.{ap}
use Rattle.waiting_trials.proofs.lock_threads.count_by_another.Goals as goal

-- what was taken is given back, and each step is allowed
pub put-requires : goal.put-requires
put-requires g c = record { call = (c.take-guarded.result.state, ap (λ l. l.log.held) c.take-guarded.ensures.taken, tt) }
