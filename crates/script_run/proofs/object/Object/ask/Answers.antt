use Rattle.std.proofs.Common.{refl}
use Rattle.script_run.proofs.object.Object.ask.Goals as goal

pub returns-in_ok-ask_flow-in-Flow : goal.returns-in_ok-ask_flow-in-Flow
returns-in_ok-ask_flow-in-Flow g c = rw c.in-Flow.is (_, c.in_ok-ask_flow-in-Flow.ensures, refl)

pub returns-in-State : goal.returns-in-State
returns-in-State g c = rw c.in-State.is (_, c.ask_state.ensures, refl)

pub returns-in_ok-ask_share-in-Share : goal.returns-in_ok-ask_share-in-Share
returns-in_ok-ask_share-in-Share g c = rw c.in-Share.is (_, c.in_ok-ask_share-in-Share.ensures, refl)

pub returns-in-Stated : goal.returns-in-Stated
returns-in-Stated g c = rw c.in-Stated.is (_, c.ask_stated.ensures, refl)

pub returns-in-Buffer : goal.returns-in-Buffer
returns-in-Buffer g c = rw c.in-Buffer.is (_, c.ask.ensures, refl)
