use Rattle.std.proofs.Common.{arith, refl, ◌≡◌, ℕ, ◌+◌, ◌-◌, ◌≤◌, List, [], ◌∷◌, ◌++◌, length, sym, ◌∙◌, subst, length-append}
use Rattle.shared_lane.specs.Steps.{next_number}
use Rattle.shared_lane.specs.Surveys.{ShutFrom, Cleared, Visit}
use Rattle.shared_lane.proofs.Passes.{pass_none, pass_more}
use Rattle.shared_lane.proofs.Rooms.{room_before, room_after}
use Rattle.shared_lane.proofs.WholePasses.{all_of, all_long, cleared_still, cleared_shut, whole_of, room_all, ends_none, ends_more, shut_after}
use Rattle.shared_lane.proofs.sequencer.blocks.clear_room.Goals as goal

pub loop-place-init : goal.loop-place-init
loop-place-init g c = ((refl, refl, refl), ([], refl, pass_none _ _, room_before _ _ _, ends_none))

pub room_left-room-requires : goal.room_left-room-requires
room_left-room-requires g c = λ ne. let inv = c.loop-place.invariant.1 in let only = inv.2.only in let below = c.clear_one-at.ensures.visited.below ne in
    let same : next_number c.loop-place.seat.me.0 ≡ next_number c.args.seat.now.me.0 = (λ i. (only.shape i).first + length (only.seen i)) in let tail = c.requires.seat.2 in omega arith

pub loop-place-preserved : goal.loop-place-preserved
loop-place-preserved g c = let before = c.loop-place.invariant.0 in let inv = c.loop-place.invariant.1 in let ns : List ℕ = inv.0 in let visit = c.clear_one-at.ensures.visited in let n : ℕ = c.clear_one-at.result in let here = c.clear_one-at.ensures.seat in
    let long = inv.1 in let longer : length (ns ++ n ∷ []) ≡ length ns + 1 = length-append ns (n ∷ []) in let E = Cleared c.args.tail c.args.words.now.shape.cells in (
      (here.0 ∙ before.0, here.1 ∙ before.1, here.2 ∙ before.2),
      (
        ns ++ n ∷ [],
        omega arith,
        pass_more E c.args.seat.now.me.0 c.loop-place.seat.me.0 c.clear_one-at.new.seat.me.0 ns n inv.2 (subst (λ (z : ℕ). Visit E c.loop-place.seat.me.0 z n c.clear_one-at.new.seat.me.0) (sym long) visit),
        room_after c.args.tail c.args.words.now.shape.cells c.args.most c.loop-place.room c.room_left-room.result ns n inv.3 c.room_left-room.ensures,
        ends_more ns n c.loop-place.place c.loop-place.end c.end_with-end.result long inv.4 c.end_with-end.ensures,
      ),
    )

pub returns : goal.returns
returns g c = let inv = c.loop-place.invariant.1 in let ns : List ℕ = inv.0 in let v = c.args.seat.now.me.0 in let w = c.loop-place.seat.me.0 in let places : ℕ = c.args.words.now.shape.places in let more : ℕ = places - length ns in
    let long = inv.1 in let within = c.requires.beyond.0 in let past = c.loop-place-test.false in let up = c.loop-place.auto.place-end in let all = all_long ns more in let tail : ℕ = c.args.tail in let cells : ℕ = c.args.words.now.shape.cells in
    let is : length ns ≡ c.args.open_end.now = omega arith in let shut = subst (ShutFrom v) (sym is) c.requires.beyond.1 in let ends = inv.4.within in record {
      seat = c.loop-place.invariant.0;
      found = (all_of ns more, omega arith, whole_of (Cleared tail cells) v w ns more (cleared_still tail cells) inv.2 shut, room_all tail cells ns more c.args.most c.loop-place.room inv.3);
      beyond = subst (λ (z : ℕ). (z ≤ c.args.open_end.now) × ShutFrom w z) (sym c.end_at.ensures) (omega arith, shut_after (Cleared tail cells) v w ns c.loop-place.end (cleared_shut tail cells) inv.2 shut inv.4);
    }
