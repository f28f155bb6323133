use Rattle.shared_lane.specs.Readers.{IsReaderOf}
use Rattle.shared_lane.specs.Sequencers.{IsSequencerOf}
use Rattle.core_trials.proofs.lane_blocks.answered.Given as goal

abbrev pub invariant-loop-exchange : goal.invariant-loop-exchange
invariant-loop-exchange l = IsSequencerOf l.lane l.sequencer × IsReaderOf l.lane l.reader
