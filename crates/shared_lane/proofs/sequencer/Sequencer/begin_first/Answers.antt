use Rattle.std.proofs.Common.{rules, arith, ◌≡◌, ℕ, false, ap, subst}
use Rattle.shared_lane.specs.Views.{SequencerSeen}
use Rattle.shared_lane.specs.Sequencers.{Passed}
use Rattle.shared_lane.proofs.Beginning.{stands_by}
use Rattle.shared_lane.proofs.sequencer.Sequencer.begin_first.Goals as goal

pub returns-then-find_room-2-clause-begun : goal.returns-then-find_room-2-clause-begun
returns-then-find_room-2-clause-begun g c = let q = c.args.self.now in let m = c.find_room.new.self in
    let here = c.capacity-2.ensures.capacity in let same = ap (λ (z : SequencerSeen). z.capacity) c.find_room.ensures.only.0 in let none = c.if-capacity-gt0.false in
    let small : q.capacity ≡ 0 = omega arith in
    let first = subst (λ (z : ℕ). Passed z q false m) c.capacity.ensures.capacity c.if-find_room.ensures.pass in
    stands_by q m c.find_room-2.new.self c.accept_with_ticket.new.self (c.args.emitter, c.args.word) c.accept_with_ticket.result
    (search rules) c.accept_with_ticket.ensures.ticket (c.is_crowded.ensures.free c.if-is_crowded.false) c.requires.first small
    (c.find_room.ensures.only, first) (c.find_room-2.ensures.only, c.if-find_room-2.ensures.pass) c.accept_with_ticket.ensures.stands
