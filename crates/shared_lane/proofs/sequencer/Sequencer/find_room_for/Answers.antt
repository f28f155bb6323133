use Rattle.std.proofs.Common.{◌≡◌, ℕ, ◌+◌, List, length, true, false, refl, sym, ap, ◌∙◌, subst, arith}
use Rattle.shared_lane.specs.declared.view.View.{View}
use Rattle.shared_lane.specs.declared.view.Shape.{Shape}
use Rattle.shared_lane.specs.Steps.{IsRoomyAt, next_number}
use Rattle.flow_terms.specs.declared.policy.Policy.{Policy}
use Rattle.flow_terms.specs.declared.policy.Policy.TheVariants.{Suspend, DropOldest, DropLatest}
use Rattle.shared_lane.specs.Views.{LaneSeen, SequencerSeen, sequencer_of}
use Rattle.shared_lane.specs.Sequencers.{next, PassedBy}
use Rattle.shared_lane.specs.Surveys.{WholePass, FoundAt, Behind}
use Rattle.shared_lane.specs.Blocks.{FindRoom, PassedFor}
use Rattle.shared_lane.proofs.Rooms.{room_found, room_kept}
use Rattle.atomic_table.specs.Seated.{TableId}
use Rattle.shared_lane.proofs.Sameness.{loaded_as}
use Rattle.shared_lane.proofs.sequencer.Sequencer.find_room_for.Goals as goal

none : (p : Policy) (q : SequencerSeen) (v : View) → (p ≡ DropOldest → ⊥) → ((ns : List ℕ) × (length ns ≡ q.view.shape.places) × WholePass FoundAt q.view ns v × Behind (next q) q.capacity ns true) → PassedBy p q.capacity q false v
none Suspend q v ne f = f
none DropOldest q v ne f = absurd (ne refl)
none DropLatest q v ne f = f

some : (p : Policy) (k : ℕ) (q : SequencerSeen) (v : View) → (p ≡ DropOldest → ⊥) → ((ns : List ℕ) × (length ns ≡ q.view.shape.places) × WholePass FoundAt q.view ns v × FindRoom q.capacity (next q) (next q + k) ns) → PassedFor p k q v
some Suspend k q v ne f = f
some DropOldest k q v ne f = absurd (ne refl)
some DropLatest k q v ne f = f

pub returns-in-DropOldest-clause-room : goal.returns-in-DropOldest-clause-room
returns-in-DropOldest-clause-room g c = let s = c.self.inside in let inv = c.self.invariant in let f = c.clear_room-room.ensures.found in let ns : List ℕ = f.0 in let words = c.words-words.result.now in let w : View = c.clear_room-room.new.seat.me.0 in
    let shape = ap (λ (z : SequencerSeen). z.view.shape) c.self.view_is ∙ (c.requires.lane.1 ∙ sym (ap (λ (z : LaneSeen). z.shape) c.words-words.ensures)) in let is = inv.tail_is in let long = f.1 ∙ (ap (λ (z : Shape). z.places) (sym shape) ∙ sym inv.sound.each_place_known) in
    let same : next c.args.self.now ≡ next_number s.seat.me.0 = ap next (sym c.self.view_is) in let cells : words.shape.cells ≡ w.shape.cells = ap (λ (z : Shape). z.cells) (sym (f.2.only.shape ∙ shape)) in
    λ n low high. subst (λ (z : ℕ). IsRoomyAt z n w) cells (room_kept s.tail words.shape.cells n s.seat.me.0 w ns words.shaped.2.0 (omega arith) long f.2 (λ _. f.3.near n (omega arith) (omega arith)))

pub returns-then-room-eq0-clause-room : goal.returns-then-room-eq0-clause-room
returns-then-room-eq0-clause-room g c = let s = c.self.inside in let inv = c.self.invariant in let f = c.clear_room-room.ensures.found in let ns : List ℕ = f.0 in let words = c.words-words.result.now in let w : View = c.clear_room-room.new.seat.me.0 in
    let shape = ap (λ (z : SequencerSeen). z.view.shape) c.self.view_is ∙ (c.requires.lane.1 ∙ sym (ap (λ (z : LaneSeen). z.shape) c.words-words.ensures)) in let is = inv.tail_is in let long = f.1 ∙ (ap (λ (z : Shape). z.places) (sym shape) ∙ sym inv.sound.each_place_known) in
    let same : next c.args.self.now ≡ next_number s.seat.me.0 = ap next (sym c.self.view_is) in let cells : words.shape.cells ≡ w.shape.cells = ap (λ (z : Shape). z.cells) (sym (f.2.only.shape ∙ shape)) in
    λ n low high. subst (λ (z : ℕ). IsRoomyAt z n w) cells (room_kept s.tail words.shape.cells n s.seat.me.0 w ns words.shaped.2.0 (omega arith) long f.2 (λ above. absurd (omega arith)))

pub returns : goal.returns
returns g c = rw (← c.self.view_is) (let s = c.self.inside in let inv = c.self.invariant in let q : SequencerSeen = sequencer_of s.seat s.policy s.capacity s.cache.capacity s.emits s.cache.items s.waiting.items s.standing.items s.ticket s.subscription in let f = c.load_room.ensures.found in
    let ns : List ℕ = f.0 in let k : ℕ = c.load_room.result in let w : View = c.load_room.new.seat.me.0 in let room = f.3 in let is = inv.tail_is in let most = c.requires.some in
    let shape = ap (λ (z : SequencerSeen). z.view.shape) c.self.view_is ∙ (c.requires.lane.1 ∙ sym (ap (λ (z : LaneSeen). z.shape) c.words-words.ensures)) in let long = f.1 ∙ ap (λ (z : Shape). z.places) (sym shape) in record {
      only = (
        ap (λ (z : TableId). loaded_as q z w) c.load_room.ensures.seat.0,
        f.2.only.shape,
        f.2.only.seen,
        f.2.only.none_opened,
      );
      few = room.few;
      none = λ e. (none s.policy q w c.in_default.not-DropOldest (ns, long, f.2, (let behind = room.no_more (omega arith) in subst (λ (z : ℕ). Behind z s.capacity ns true) (let at : s.tail + k ≡ next q = omega arith in at) behind)), c.in_default.not-DropOldest);
      some = λ _. some s.policy k q w c.in_default.not-DropOldest (ns, long, f.2, λ n low high. room.near n (omega arith) (omega arith));
      room = λ n low high. subst (λ (z : Shape). IsRoomyAt z.cells n w) (sym f.2.only.shape)
          (room_found s.tail s.capacity s.seat.me.0.shape.cells n s.seat.me.0 w ns (let cells = inv.sound.cells in omega arith) (long ∙ sym inv.sound.each_place_known) f.2 (room.near n (omega arith) (omega arith)));
    })
