use Rattle.std.proofs.Common.{rules}
use Rattle.sharing_upstream.proofs.upstream.Upstream.stop.Goals as goal

-- A wrong body makes this false: so answered, it is refused at once.
pub returns-in-Running-clause-course : goal.returns-in-Running-clause-course
returns-in-Running-clause-course g c = search rules
