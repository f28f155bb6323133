use Rattle.flow_sharing.proofs.Polling.{sets}
use Rattle.flow_sharing.proofs.state_sharing.StateSharing.poll.Goals as goal

pub returns-clause-has : goal.returns-clause-has
returns-clause-has g c =
    sets g.F.Running.Run.may g.F.Running.Run.ended g.F.Running.Run.polled g.F.Flow.may c.args.self.now.initial
    c.args.self.now.strategy c.poll_sharing.new.strategy c.args.now c.poll_sharing.result c.args.self.now.upstream _ c.poll_sharing.new.upstream _
    c.poll_sharing.ensures.acts c.poll_sharing.ensures.err c.poll_sharing.ensures.starts
