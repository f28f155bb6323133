use Rattle.std.proofs.Common.{arith, refl, ◌≡◌, ℕ, ◌+◌, ◌-◌, ◌≤◌, ◌<◌, List, [], ◌∷◌, ◌++◌, length, sym, ◌∙◌, subst, length-append}
use Rattle.shared_lane.specs.Steps.{next_number, Surveyed}
use Rattle.shared_lane.specs.Surveys.{ShutFrom, FoundAt}
use Rattle.shared_lane.proofs.Passes.{visited, pass_none, pass_more}
use Rattle.shared_lane.proofs.Rooms.{room_before, room_after}
use Rattle.shared_lane.proofs.WholePasses.{all_of, all_long, found_still, found_shut, whole_of, room_all, ends_none, ends_more, shut_after}
use Rattle.shared_lane.proofs.sequencer.blocks.load_room.Goals as goal

pub loop-place-init : goal.loop-place-init
loop-place-init g c = ((refl, refl, refl), ([], refl, pass_none _ _, room_before _ _ _, ends_none))

pub room_left-room-requires : goal.room_left-room-requires
room_left-room-requires g c = λ ne. let inv = c.loop-place.invariant.1 in let only = inv.2.only in let below = (c.load_cursor-at.ensures.view.2 ne).2 in
    let same : next_number c.loop-place.seat.me.0 ≡ next_number c.args.seat.now.me.0 = (λ i. (only.shape i).first + length (only.seen i)) in let tail = c.requires.seat.2 in omega arith

pub loop-place-preserved : goal.loop-place-preserved
loop-place-preserved g c = let before = c.loop-place.invariant.0 in let inv = c.loop-place.invariant.1 in let ns : List ℕ = inv.0 in let n : ℕ = c.load_cursor-at.result in let here = c.load_cursor-at.ensures in
    let count = c.requires.sized.1 in let test = c.loop-place-test.true in let long = inv.1 in let longer : length (ns ++ n ∷ []) ≡ length ns + 1 = length-append ns (n ∷ []) in
    let same = inv.2.only.count in let inside : length ns < length c.loop-place.seat.me.0.sequencing.places = omega arith in (
      (here.seat.0 ∙ before.0, here.seat.1 ∙ before.1, here.seat.2 ∙ before.2),
      (
        ns ++ n ∷ [],
        omega arith,
        pass_more _ c.args.seat.now.me.0 c.loop-place.seat.me.0 c.load_cursor-at.new.seat.me.0 ns n inv.2 (visited c.loop-place.seat.me.0 c.load_cursor-at.new.seat.me.0 (length ns) n inside (subst (λ (z : ℕ). Surveyed z c.loop-place.seat.me.0 n c.load_cursor-at.new.seat.me.0) (sym long) here.view)),
        room_after c.args.tail c.args.lag c.args.most c.loop-place.room c.room_left-room.result ns n inv.3 c.room_left-room.ensures,
        ends_more ns n c.loop-place.place c.loop-place.end c.end_with-end.result long inv.4 c.end_with-end.ensures,
      ),
    )

pub returns : goal.returns
returns g c = let inv = c.loop-place.invariant.1 in let ns : List ℕ = inv.0 in let v = c.args.seat.now.me.0 in let w = c.loop-place.seat.me.0 in let places : ℕ = c.args.words.now.shape.places in let more : ℕ = places - length ns in
    let long = inv.1 in let within = c.requires.beyond.0 in let past = c.loop-place-test.false in let up = c.loop-place.auto.place-end in let all = all_long ns more in
    let is : length ns ≡ c.args.open_end.now = omega arith in let shut = subst (ShutFrom v) (sym is) c.requires.beyond.1 in let ends = inv.4.within in record {
      seat = c.loop-place.invariant.0;
      found = (all_of ns more, omega arith, whole_of FoundAt v w ns more found_still inv.2 shut, room_all c.args.tail c.args.lag ns more c.args.most c.loop-place.room inv.3);
      beyond = subst (λ (z : ℕ). (z ≤ c.args.open_end.now) × ShutFrom w z) (sym c.end_at.ensures) (omega arith, shut_after FoundAt v w ns c.loop-place.end found_shut inv.2 shut inv.4);
    }
