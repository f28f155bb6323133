use Rattle.shared_rounds.proofs.Rises.{ended_only}
use Rattle.shared_rounds.proofs.shared.Shared.wake_ended.Goals as goal

pub returns-in-Some-clause-others : goal.returns-in-Some-clause-others
returns-in-Some-clause-others c = rw (← c.self.view_is) (ended_only c.args.ended c.in-Some.number c.self.inside.subscriptions.sleeping c.wake.new.self.sleeping c.in-Some.is c.wake.ensures.others)
