use Rattle.std.proofs.Common.{rules}
use Rattle.sharing_upstream.proofs.upstream.Upstream.fault.Goals as goal

-- A wrong body makes this false: so answered, it is refused at once.
pub returns-in-Broken : goal.returns-in-Broken
returns-in-Broken g c = search rules
