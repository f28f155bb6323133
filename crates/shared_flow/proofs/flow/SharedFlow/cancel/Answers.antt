use Rattle.std.proofs.Common.{rules}
use Rattle.shared_flow.proofs.flow.SharedFlow.cancel.Goals as goal

pub returns-clause-last : goal.returns-clause-last
returns-clause-last g c =
    let last = c.end-access.ensures.last in
    (last.0, last.1, rw (last.2) (search rules))
