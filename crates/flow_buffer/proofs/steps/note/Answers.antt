use Rattle.flow_buffer.proofs.ChannelSteps.{misses_as}
use Rattle.flow_buffer.proofs.steps.note.Goals as goal

pub another-spare-requires-clause-rule : goal.another-spare-requires-clause-rule
another-spare-requires-clause-rule g c = misses_as _ _ c.requires.unended g.W.Missed.value c.args.value c.requires.value
