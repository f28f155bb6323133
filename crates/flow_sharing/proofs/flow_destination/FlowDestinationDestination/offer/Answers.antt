use Rattle.flow_sharing.specs.Outlets.{place_at}
use Rattle.flow_sharing.proofs.Places.{accepted_frees}
use Rattle.flow_sharing.proofs.flow_destination.FlowDestinationDestination.offer.Goals as goal

pub returns-clause-free : goal.returns-clause-free
returns-clause-free g c =
    let flow = c.args.self.now.flow.now in
    accepted_frees g.T.Word.word (place_at flow c.args.self.now.outlet.now) c.args.value c.offer.result (place_at flow c.offer.new.self) (c.offer.ensures.offered flow)
