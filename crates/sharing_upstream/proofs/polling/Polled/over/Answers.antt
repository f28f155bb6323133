use Rattle.std.proofs.Common.{rules}
use Rattle.sharing_upstream.proofs.polling.Polled.over.Goals as goal

-- A wrong body makes this false: so answered, it is refused at once.
pub returns : goal.returns
returns c = search rules
