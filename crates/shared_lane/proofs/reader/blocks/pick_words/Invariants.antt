use Rattle.std.proofs.Common.{◌≡◌, ℕ, ◌+◌, List, ◌++◌, length, map}
use Rattle.std.specs.Vec.{vec_capacity}
use Rattle.shared_lane.specs.Layout.{cell_index}
use Rattle.shared_lane.specs.Seats.{IsSameSeat}
use Rattle.shared_lane.specs.Steps.{position}
use Rattle.shared_lane.specs.Picks.{with_picked}
use Rattle.shared_lane.proofs.reader.blocks.pick_words.Given as goal

abbrev pub invariant-loop-picked : goal.invariant-loop-picked
invariant-loop-picked g l = IsSameSeat l.initial.seat l.seat × (vec_capacity l.out ≡ vec_capacity l.initial.out) × (l.next ≡ cell_index l.fn.words.shape (position l.initial.seat.me.0.reading + l._picked))
    × ((xs : List ℕ) × (length xs ≡ l._picked) × (l.out.items ≡ l.initial.out.items ++ map g.T.Word.read_as xs) × (l.seat.me.0 ≡ with_picked l.fn.words.shape xs l.initial.seat.me.0))
