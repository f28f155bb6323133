use Rattle.std.proofs.Common.{arith}
use Rattle.std.proofs.lemmas.Grind.{common_steps}
use Rattle.flow_merge.proofs.flows.standing.cancel_all.Goals as goal

-- A wrong body makes this false: so answered, it is refused at once.
pub loop-run-preserved : goal.loop-run-preserved
loop-run-preserved g c = grind (arith, common_steps)
