use Rattle.std.proofs.Common.{◌≡◌, ℕ, ◌+◌, length, arith}
use Rattle.std.proofs.lemmas.List.{length-take}
use Rattle.shared_lane.specs.Sequencers.{next}
use Rattle.shared_lane.proofs.sequencer.Sequencer.accept_some.Goals as goal

pub accept_all-requires-clause-room : goal.accept_all-requires-clause-room
accept_all-requires-clause-room g c = let only = c.find_room_for-room.ensures.only in let k : ℕ = c.find_room_for-room.result in let count = length-take k c.args.words.now in
    let same : next c.find_room_for-room.new.self ≡ next c.args.self.now = (λ i. (only.1 i).first + length (only.2 i)) in λ n low high. c.find_room_for-room.ensures.room n (omega arith) (omega arith)
