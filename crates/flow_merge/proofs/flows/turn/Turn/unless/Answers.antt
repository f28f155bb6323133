use Rattle.std.proofs.Common.{rules}
use Rattle.flow_merge.proofs.flows.turn.Turn.unless.Goals as goal

-- A wrong body makes these false: so answered, it is refused at once.
pub returns-in-Left : goal.returns-in-Left
returns-in-Left c = search rules

pub returns-in-Right : goal.returns-in-Right
returns-in-Right c = search rules
