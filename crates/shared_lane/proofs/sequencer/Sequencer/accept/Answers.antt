use Rattle.std.proofs.Common.{◌≡◌, ◌<◌, ◌≤◌, List, take, drop, ◌++◌, ◌∷◌, [], ◌∙◌, ap, subst, sym, ◌+◌, arith, length, length-append}
use Rattle.shared_lane.specs.declared.view.View.{View}
use Rattle.shared_lane.specs.declared.view.Shape.{Shape}
use Rattle.shared_lane.specs.Layout.{cell_index}
use Rattle.shared_lane.specs.Law.{Entry}
use Rattle.shared_lane.specs.Steps.{next_number}
use Rattle.shared_lane.specs.Surveys.{may_be_open}
use Rattle.shared_lane.specs.Views.{LaneSeen, SequencerSeen, sequencer_of}
use Rattle.shared_lane.specs.Kept.{IsSound}
use Rattle.shared_lane.specs.Sequencers.{next, accepted_on}
use Rattle.shared_lane.proofs.Soundness.{shown_after, sound_accepted}
use Rattle.shared_lane.proofs.sequencer.Sequencer.accept.Goals as goal

pub store_cell-requires-clause-cell : goal.store_cell-requires-clause-cell
store_cell-requires-clause-cell g c = let s = c.self.inside in let inv = c.self.invariant in
    let of_lane : s.seat.me.0.shape ≡ c.words-words.result.now.shape = ap (λ (z : SequencerSeen). z.view.shape) c.self.view_is ∙ (c.requires.lane.1 ∙ sym (ap (λ (z : LaneSeen). z.shape) c.words-words.ensures)) in
    inv.cell_is ∙ (λ i. cell_index (of_lane i) (inv.tail_is i))

pub invariant_of-self : goal.invariant_of-self
invariant_of-self g c = let s = c.self.inside in let inv = c.self.invariant in let q : SequencerSeen = sequencer_of s.seat s.policy s.capacity s.cache.capacity s.emits s.cache.items s.waiting.items s.standing.items s.ticket s.subscription in
    let table = c.store_tail.ensures.seat.0 ∙ c.store_cell.ensures.seat.0 in let kept = c.push_back.ensures.items in
    let view : c.store_tail.new.seat.me.0 ≡ (let u : View = record s.seat.me.0 { seen = s.seat.me.0.seen ++ (c.args.emitter, c.args.word) ∷ [] } in u) = c.store_tail.ensures.view
    ∙ ap (λ (v : View). let u : View = record v { seen = v.seen ++ take 1 v.sequencing.flight; sequencing = record v.sequencing { flight = drop 1 v.sequencing.flight } } in u) c.store_cell.ensures.view
    ∙ (λ i. record s.seat.me.0 { seen = s.seat.me.0.seen ++ (c.args.emitter, c.args.word) ∷ []; sequencing = record s.seat.me.0.sequencing { flight = (ap (λ (l : List Entry). drop 1 l) inv.sound.no_flight ∙ sym inv.sound.no_flight) i } }) in
    let now : SequencerSeen = sequencer_of c.store_tail.new.seat s.policy s.capacity c.push_back.new.self.capacity s.emits c.push_back.new.self.items s.waiting.items s.standing.items s.ticket s.subscription in
    let is : now ≡ accepted_on (c.args.emitter, c.args.word) q = shown_after q table view (λ i. (kept i).capacity) (λ i. (kept i).items) in
    let below = subst (λ (z : SequencerSeen). next z + length z.waiting < 4611686018427387904) (sym c.self.view_is) c.requires.number in
    let longer = length-append s.seat.me.0.seen ((c.args.emitter, c.args.word) ∷ []) in let after = ap next_number view in let before = inv.tail_is in
    let of_lane : s.seat.me.0.shape ≡ c.words-words.result.now.shape = ap (λ (z : SequencerSeen). z.view.shape) c.self.view_is ∙ (c.requires.lane.1 ∙ sym (ap (λ (z : LaneSeen). z.shape) c.words-words.ensures)) in record {
      sound = subst IsSound (sym is) (sound_accepted q (c.args.emitter, c.args.word) inv.sound below);
      holds_no_slot = c.store_tail.ensures.seat.2 ∙ c.store_cell.ensures.seat.2 ∙ inv.holds_no_slot;
      tail_is = omega arith;
      cell_is = c.next_index-self-inside.ensures s.tail (inv.cell_is ∙ ap (λ (z : Shape). cell_index z s.tail) of_lane) ∙ ap (λ (z : Shape). cell_index z (s.tail + 1)) (sym (ap (λ (v : View). v.shape) view ∙ of_lane));
      end_within = subst (λ (v : View). s.open_end ≤ v.shape.places) (sym view) inv.end_within;
      shut_from = λ p past. ap (λ (v : View). may_be_open v p) view ∙ inv.shut_from p past;
      room_to_wait = inv.room_to_wait;
      room_to_stand = inv.room_to_stand;
    }
