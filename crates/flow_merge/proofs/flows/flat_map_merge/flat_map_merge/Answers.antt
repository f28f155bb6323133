use Rattle.std.proofs.Common.{rules}
use Rattle.flow_merge.proofs.flows.flat_map_merge.flat_map_merge.Goals as goal

-- A wrong body makes this false: so answered, it is refused at once.
pub returns-clause-too_many : goal.returns-clause-too_many
returns-clause-too_many g c = search rules
