use Rattle.flow_buffer.proofs.Starts.{starts_shown, starts_giving}
use Rattle.flow_buffer.proofs.buffer_flow.BufferFlow.start.Goals as goal

pub returns-clause-begins : goal.returns-clause-begins
returns-clause-begins g c = starts_shown _ _ _ c.in_ok-store.ensures

pub returns-clause-gives : goal.returns-clause-gives
returns-clause-gives g c = starts_giving _ _ _ c.in_ok-store.ensures _ _ c.in_ok-source.ensures.gives
