use Rattle.std.proofs.Common.{inr}
use Rattle.shared_flow.specs.Emitters.{not_yet}
use Rattle.flow_stopping.proofs.parker.StoppableParker.finish.Goals as goal

pub returns-in-Some-clause-answers : goal.returns-in-Some-clause-answers
returns-in-Some-clause-answers g c = (c.args.emitter.now, not_yet c.args.emitter.now, inr c.in-Some.ensures.left)
