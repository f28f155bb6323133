use Rattle.flow_buffer.proofs.Deliveries.{gives_whole, gives_latest}
use Rattle.flow_buffer.proofs.making.buffer.Goals as goal

pub returns-clause-exact : goal.returns-clause-exact
returns-clause-exact g c waits whole fixed = gives_whole _ _ waits _ whole fixed

pub returns-clause-latest : goal.returns-clause-latest
returns-clause-latest g c lossy = gives_latest _ _ lossy _
