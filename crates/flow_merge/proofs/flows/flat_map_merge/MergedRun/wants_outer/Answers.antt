use Rattle.std.proofs.Common.{rules}
use Rattle.flow_merge.proofs.flows.flat_map_merge.MergedRun.wants_outer.Goals as goal

-- A wrong body makes this false: so answered, it is refused at once.
pub returns-clause-room : goal.returns-clause-room
returns-clause-room g c = search rules
