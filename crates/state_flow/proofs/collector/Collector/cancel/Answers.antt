use Rattle.std.proofs.Common.{rules}
use Rattle.state_flow.proofs.collector.Collector.cancel.Goals as goal

-- A wrong body makes this false: so answered, it is refused at once.
pub over-requires : goal.over-requires
over-requires g c = search rules
