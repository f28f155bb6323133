use Rattle.std.proofs.Common.{◌≡◌, ℕ, ◌<◌, ◌≤◌, List, [], ◌++◌, ◌∙◌, ap, subst, sym, ◌+◌, arith, length, length-append}
use Rattle.circular_buffer.specs.Buffer.{keep_last}
use Rattle.shared_lane.specs.declared.view.View.{View}
use Rattle.shared_lane.specs.declared.view.Shape.{Shape}
use Rattle.shared_lane.specs.Law.{Entry}
use Rattle.shared_lane.specs.Layout.{cell_index}
use Rattle.shared_lane.specs.Steps.{next_number, IsRoomyAt}
use Rattle.shared_lane.specs.Surveys.{may_be_open}
use Rattle.shared_lane.specs.Views.{LaneSeen, SequencerSeen, sequencer_of}
use Rattle.shared_lane.specs.Kept.{IsSound}
use Rattle.shared_lane.specs.Sequencers.{next}
use Rattle.shared_lane.specs.Blocks.{entries, accepted_all, with_flight}
use Rattle.shared_lane.proofs.Entries.{entries_length, entries_words}
use Rattle.shared_lane.proofs.Soundness.{shown_after, sound_accepted_all}
use Rattle.shared_lane.proofs.sequencer.Sequencer.accept_all.Goals as goal

-- what was in flight is accepted, where nothing had been in flight before
view_after : (v w u : View) (es : List Entry) → v.sequencing.flight ≡ [] → w ≡ with_flight es v → u ≡ (let t : View = record w { seen = w.seen ++ w.sequencing.flight; sequencing = record w.sequencing { flight = [] } } in t)
    → u ≡ (let t : View = record v { seen = v.seen ++ es } in t)
view_after v w u es none stored accepted = accepted ∙ (ap (λ (z : View). let t : View = record z { seen = z.seen ++ z.sequencing.flight; sequencing = record z.sequencing { flight = [] } } in t) stored
    ∙ (λ i. record v { seen = v.seen ++ es; sequencing = record v.sequencing { flight = sym none i } }))

pub store_cells-cell-requires-clause-room : goal.store_cells-cell-requires-clause-room
store_cells-cell-requires-clause-room g c = let s = c.self.inside in let q : SequencerSeen = sequencer_of s.seat s.policy s.capacity s.cache.capacity s.emits s.cache.items s.waiting.items s.standing.items s.ticket s.subscription in
    let of_lane : s.seat.me.0.shape ≡ c.words-words.result.now.shape = ap (λ (z : SequencerSeen). z.view.shape) c.self.view_is ∙ (c.requires.lane.1 ∙ sym (ap (λ (z : LaneSeen). z.shape) c.words-words.ensures)) in
    let room : (n : ℕ) → next q ≤ n → n < next q + length c.args.block.now → IsRoomyAt q.view.shape.cells n q.view =
    subst (λ (z : SequencerSeen). (n : ℕ) → next z ≤ n → n < next z + length c.args.block.now → IsRoomyAt z.view.shape.cells n z.view) (sym c.self.view_is) c.requires.room in
    λ n low high. subst (λ (z : Shape). IsRoomyAt z.cells n s.seat.me.0) of_lane (room n low high)

pub invariant_of-self : goal.invariant_of-self
invariant_of-self g c = let s = c.self.inside in let inv = c.self.invariant in let q : SequencerSeen = sequencer_of s.seat s.policy s.capacity s.cache.capacity s.emits s.cache.items s.waiting.items s.standing.items s.ticket s.subscription in
    let es : List Entry = entries c.args.emitter c.args.block.now in let cells = c.store_cells-cell.ensures in let tail = c.store_tail_past.ensures in let kept = c.extend_from_slice.ensures in
    let table = tail.seat.0 ∙ cells.seat.0 in let view = view_after s.seat.me.0 c.store_cells-cell.new.seat.me.0 c.store_tail_past.new.seat.me.0 es inv.sound.no_flight cells.view tail.view in
    let now : SequencerSeen = sequencer_of c.store_tail_past.new.seat s.policy s.capacity c.extend_from_slice.new.self.capacity s.emits c.extend_from_slice.new.self.items s.waiting.items s.standing.items s.ticket s.subscription in
    let words = entries_words c.args.emitter c.args.block.now in
    let is : now ≡ accepted_all es q = shown_after q table view (λ i. (kept i).capacity) (λ i. (kept i).items) ∙ (λ i. record (accepted_all es q) { cache = keep_last s.cache.capacity (s.cache.items ++ sym words i) }) in
    let count = entries_length c.args.emitter c.args.block.now in
    let below = subst (λ (z : SequencerSeen). next z + length c.args.block.now + length z.waiting ≤ 4611686018427387904) (sym c.self.view_is) c.requires.number in
    let longer = length-append s.seat.me.0.seen es in let after = ap next_number view in let before = inv.tail_is in
    let of_lane : s.seat.me.0.shape ≡ c.words-words.result.now.shape = ap (λ (z : SequencerSeen). z.view.shape) c.self.view_is ∙ (c.requires.lane.1 ∙ sym (ap (λ (z : LaneSeen). z.shape) c.words-words.ensures)) in record {
      sound = subst IsSound (sym is) (sound_accepted_all q es inv.sound (omega arith));
      holds_no_slot = tail.seat.2 ∙ (cells.seat.2 ∙ inv.holds_no_slot);
      tail_is = omega arith;
      cell_is = cells.cell ∙ (λ i. cell_index (sym (ap (λ (v : View). v.shape) view ∙ of_lane) i) ((let e : next_number s.seat.me.0 + length c.args.block.now ≡ s.tail + length c.args.block.now = omega arith in e) i));
      end_within = subst (λ (v : View). s.open_end ≤ v.shape.places) (sym view) inv.end_within;
      shut_from = λ p past. ap (λ (v : View). may_be_open v p) view ∙ inv.shut_from p past;
      room_to_wait = inv.room_to_wait;
      room_to_stand = inv.room_to_stand;
    }

pub returns : goal.returns
returns g c = let s = c.self.inside in let inv = c.self.invariant in let q : SequencerSeen = sequencer_of s.seat s.policy s.capacity s.cache.capacity s.emits s.cache.items s.waiting.items s.standing.items s.ticket s.subscription in
    let es : List Entry = entries c.args.emitter c.args.block.now in let cells = c.store_cells-cell.ensures in let tail = c.store_tail_past.ensures in let kept = c.extend_from_slice.ensures in
    let table = tail.seat.0 ∙ cells.seat.0 in let view = view_after s.seat.me.0 c.store_cells-cell.new.seat.me.0 c.store_tail_past.new.seat.me.0 es inv.sound.no_flight cells.view tail.view in
    let words = entries_words c.args.emitter c.args.block.now in
    shown_after q table view (λ i. (kept i).capacity) (λ i. (kept i).items) ∙ ((λ i. record (accepted_all es q) { cache = keep_last s.cache.capacity (s.cache.items ++ sym words i) }) ∙ ap (accepted_all es) c.self.view_is)
