use Rattle.flow_sharing.proofs.Places.{found_free}
use Rattle.flow_sharing.proofs.flow_destination.FlowDestinationDestination.still_waits.Goals as goal

pub returns-clause-free : goal.returns-clause-free
returns-clause-free g c = found_free _ c.still_waits.result _ (c.still_waits.ensures.found c.args.self.now.flow.now)
