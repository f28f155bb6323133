use Rattle.flow_sharing.specs.Outlets.{place_at}
use Rattle.flow_sharing.proofs.Polling.{emits}
use Rattle.flow_sharing.proofs.sharing.Sharing.poll.Goals as goal

pub returns-clause-has : goal.returns-clause-has
returns-clause-has g c =
    let before = place_at c.args.self.now.flow c.args.self.now.outlet in
    let after = place_at c.poll_sharing.new.destination.flow.now c.poll_sharing.new.destination.outlet.now in
    emits g.F.Running.Run.may g.F.Running.Run.ended g.F.Running.Run.polled g.F.Flow.may g.T.Word.word
    c.args.self.now.strategy c.poll_sharing.new.strategy c.args.now c.poll_sharing.result c.args.self.now.upstream before c.poll_sharing.new.upstream after
    c.args.self.now.outlet.in_flight c.poll_sharing.new.destination.outlet.now.waits_last
    c.poll_sharing.ensures.acts c.poll_sharing.ensures.err c.poll_sharing.ensures.starts
