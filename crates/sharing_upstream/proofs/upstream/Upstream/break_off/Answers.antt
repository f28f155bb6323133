use Rattle.std.proofs.Common.{rules}
use Rattle.sharing_upstream.proofs.upstream.Upstream.break_off.Goals as goal

-- A wrong body makes this false: so answered, it is refused at once.
pub returns-clause-course : goal.returns-clause-course
returns-clause-course g c = search rules
