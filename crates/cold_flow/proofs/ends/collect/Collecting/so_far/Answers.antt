use Rattle.std.proofs.Common.{rules}
use Rattle.cold_flow.proofs.ends.collect.Collecting.so_far.Goals as goal

-- A wrong body makes this false: so answered, it is refused at once.
pub returns : goal.returns
returns g c = search rules
