use Rattle.std.proofs.Common.{◌≡◌, ◌-◌, ◌≤◌, [], length, map, take}
use Rattle.shared_lane.specs.Blocks.{TriedAllOn}
use Rattle.shared_lane.specs.Sequencers.{IsSameSequencer}
use Rattle.shared_rounds.specs.Waking.{SleepOn}
use Rattle.shared_rounds.proofs.shared.Shared.try_others.Given as goal

abbrev pub invariant-loop-done : goal.invariant-loop-done
invariant-loop-done g l = (l.self.name ≡ l.fn.self.name) × IsSameSequencer l.fn.self.sequencer l.self.sequencer × (l.self.sequencer.waiting ≡ []) × (l.done ≤ length l.values)
    × TriedAllOn l.fn.self.sequencer l.emitter (map g.T.Word.word (take l.done l.values)) l.done l.self.sequencer × SleepOn l.fn.self l.self

abbrev pub decreases-loop-done : goal.decreases-loop-done
decreases-loop-done g l = length l.values - l.done
