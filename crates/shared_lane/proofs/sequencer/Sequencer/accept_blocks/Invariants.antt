use Rattle.std.proofs.Common.{◌≡◌, ◌-◌, ◌≤◌, List, [], ◌++◌, length, take}
use Rattle.shared_lane.specs.Law.{Entry}
use Rattle.shared_lane.specs.Sequencers.{IsSequencerOf, IsSameSequencer, seen}
use Rattle.shared_lane.specs.Blocks.{entries, joined, AcceptedInTurn}
use Rattle.shared_lane.proofs.sequencer.Sequencer.accept_blocks.Given as goal

abbrev pub invariant-loop-done : goal.invariant-loop-done
invariant-loop-done g l = IsSequencerOf l.fn.lane l.self × IsSameSequencer l.initial.self l.self × (l.self.waiting ≡ []) × (l.done ≤ length l.fn.words)
    × (seen l.self ≡ seen l.initial.self ++ entries l.fn.emitter (take l.done l.fn.words))
    × ((blocks : List (List Entry)) × (joined blocks ≡ entries l.fn.emitter (take l.done l.fn.words)) × AcceptedInTurn l.initial.self blocks l.self)

abbrev pub decreases-loop-done : goal.decreases-loop-done
decreases-loop-done g l = length l.fn.words - l.done
