use Rattle.shared_lane.specs.Sequencers.{IsSequencerOf, IsSameSequencer, AcceptedWaiting}
use Rattle.shared_lane.proofs.sequencer.Sequencer.accept_waiting.Given as goal

abbrev pub invariant-loop-settled : goal.invariant-loop-settled
invariant-loop-settled g l = IsSequencerOf l.fn.lane l.self × IsSameSequencer l.initial.self l.self × AcceptedWaiting l.settled l.initial.self l.self
