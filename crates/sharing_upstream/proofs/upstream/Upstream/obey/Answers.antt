use Rattle.std.proofs.Common.{rules}
use Rattle.sharing_upstream.proofs.upstream.Upstream.obey.Goals as goal

-- A wrong body makes this false: so answered, it is refused at once.
pub returns-in-Some-Start-clause-obeys : goal.returns-in-Some-Start-clause-obeys
returns-in-Some-Start-clause-obeys g c = search rules
