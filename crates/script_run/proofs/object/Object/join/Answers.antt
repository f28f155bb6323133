use Rattle.std.proofs.Common.{refl}
use Rattle.script_run.proofs.object.Object.join.Goals as goal

pub returns-in-Flow : goal.returns-in-Flow
returns-in-Flow g c = rw c.in-Flow.is (_, c.join_flow.ensures, refl)

pub returns-in-State : goal.returns-in-State
returns-in-State g c = rw c.in-State.is (_, c.join_state.ensures, refl)

pub returns-in-Share : goal.returns-in-Share
returns-in-Share g c = rw c.in-Share.is (_, (c.join_shared.ensures, refl), refl)

pub returns-in-Stated : goal.returns-in-Stated
returns-in-Stated g c = rw c.in-Stated.is (_, (c.join_state-in-Stated.ensures, refl), refl)

pub returns-in-Buffer : goal.returns-in-Buffer
returns-in-Buffer g c = rw c.in-Buffer.is (refl, refl)
