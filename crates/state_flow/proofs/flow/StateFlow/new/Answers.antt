use Rattle.std.proofs.Common.{rules}
use Rattle.state_flow.proofs.flow.StateFlow.new.Goals as goal

-- A wrong body makes this false: so answered, it is refused at once.
pub returns-in_err-seat-clause-bad_limit : goal.returns-in_err-seat-clause-bad_limit
returns-in_err-seat-clause-bad_limit g c = search rules
