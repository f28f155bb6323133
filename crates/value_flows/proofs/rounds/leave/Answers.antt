use Rattle.std.proofs.Common.{refl}
use Rattle.value_flows.proofs.rounds.leave.Goals as goal

pub put-requires : goal.put-requires
put-requires g c = record { call = (c.args.guarded.state, c.requires, refl) }
