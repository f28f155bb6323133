use Rattle.std.proofs.Common.{◌≡◌, ◌+◌, take}
use Rattle.shared_lane.specs.Layout.{cell_index}
use Rattle.shared_lane.specs.Seats.{IsSameSeat}
use Rattle.shared_lane.specs.Steps.{next_number}
use Rattle.shared_lane.specs.Blocks.{entries, with_flight}
use Rattle.shared_lane.proofs.sequencer.blocks.store_cells.Given as goal

abbrev pub invariant-loop-word : goal.invariant-loop-word
invariant-loop-word g l = IsSameSeat l.initial.seat l.seat × (l.seat.me.0 ≡ with_flight (entries l.fn.emitter (take l.word-index l.fn.block)) l.initial.seat.me.0)
    × (l.next ≡ cell_index l.fn.words.shape (next_number l.initial.seat.me.0 + l.word-index))
