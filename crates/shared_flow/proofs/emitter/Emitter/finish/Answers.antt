use Rattle.shared_flow.proofs.Waiting.{was_withdrawn}
use Rattle.std.proofs.Common.{refl}
use Rattle.shared_flow.proofs.emitter.Emitter.finish.Goals as goal

pub returns-in-Removed-clause-answers : goal.returns-in-Removed-clause-answers
returns-in-Removed-clause-answers g c = (refl, was_withdrawn c.args.self.now c.cancel_emit.new.self c.requires.in_flight c.in-Removed.ensures.removed)
