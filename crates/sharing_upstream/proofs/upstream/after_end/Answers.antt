use Rattle.std.proofs.Common.{rules}
use Rattle.sharing_upstream.proofs.upstream.after_end.Goals as goal

-- A wrong body makes this false: so answered, it is refused at once.
pub returns-in-Failed : goal.returns-in-Failed
returns-in-Failed g c = search rules
