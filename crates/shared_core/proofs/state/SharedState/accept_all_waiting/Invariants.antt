use Rattle.shared_core.specs.Accepting.{Settling, waiting_in}
use Rattle.shared_core.proofs.state.SharedState.accept_all_waiting.Given as goal

abbrev pub invariant-loop : goal.invariant-loop
invariant-loop g l = Settling l.fn.self l.self

abbrev pub decreases-loop : goal.decreases-loop
decreases-loop g l = waiting_in l.self
