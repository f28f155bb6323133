use Rattle.shared_lane.specs.Sequencers.{IsSequencerOf}
use Rattle.core_trials.proofs.lane_rows.a_place_is_left_and_taken_a_thousand_times.Given as goal

abbrev pub invariant-loop-word : goal.invariant-loop-word
invariant-loop-word g l = IsSequencerOf l.lane l.sequencer
