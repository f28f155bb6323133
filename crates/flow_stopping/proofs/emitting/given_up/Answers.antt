use Rattle.shared_flow.proofs.Waiting.{was_withdrawn}
use Rattle.flow_stopping.proofs.emitting.given_up.Goals as goal

pub returns-in-Removed-clause-withdrawn : goal.returns-in-Removed-clause-withdrawn
returns-in-Removed-clause-withdrawn g c = was_withdrawn c.args.emitter.now c.cancel_emit.new.self c.requires.in_flight c.in-Removed.ensures.removed
