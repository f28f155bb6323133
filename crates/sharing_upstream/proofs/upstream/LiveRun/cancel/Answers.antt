use Rattle.std.proofs.Common.{rules}
use Rattle.sharing_upstream.proofs.upstream.LiveRun.cancel.Goals as goal

-- A wrong body makes this false: so answered, it is refused at once.
pub spend-requires : goal.spend-requires
spend-requires g c = search rules
