use Rattle.std.proofs.Common.{◌≡◌, ℕ, ◌+◌, ◌≤◌, List, [], ◌∷◌, ◌++◌, length, take, get_or, refl, sym, ap, ◌∙◌, subst, arith}
use Rattle.std.proofs.lemmas.List.{take_all}
use Rattle.shared_lane.specs.declared.view.View.{View}
use Rattle.shared_lane.specs.Law.{Entry}
use Rattle.shared_lane.specs.Layout.{cell_index}
use Rattle.shared_lane.specs.Steps.{next_number, next_to_store, IsRoomyAt}
use Rattle.shared_lane.specs.Blocks.{entries, with_flight}
use Rattle.shared_lane.proofs.Entries.{entries_front, entries_more}
use Rattle.shared_lane.proofs.sequencer.blocks.store_cells.Goals as goal

-- where so many are in flight
to_store : (v w : View) (emitter i : ℕ) (words : List ℕ) → i ≤ length words → w ≡ with_flight (entries emitter (take i words)) v → next_to_store w ≡ next_number v + i
to_store v w emitter i words few is = ap next_to_store is ∙ ap (λ (z : ℕ). next_number v + z) (entries_front emitter i words few)

pub store_next_cell-requires-clause-seat : goal.store_next_cell-requires-clause-seat
store_next_cell-requires-clause-seat g c = let inv = c.loop-word.invariant in (inv.0.0 ∙ c.requires.seat.0, ap (λ (v : View). v.sequencing.active) inv.1 ∙ c.requires.seat.1)

pub store_next_cell-requires-clause-cell : goal.store_next_cell-requires-clause-cell
store_next_cell-requires-clause-cell g c = let inv = c.loop-word.invariant in let test = c.loop-word-test.true in
    inv.2 ∙ ap (λ (n : ℕ). cell_index c.args.words.now.shape n) (sym (to_store c.args.seat.now.me.0 c.loop-word.seat.me.0 c.args.emitter c.loop-word.word-index c.args.block.now (omega arith) inv.1))

pub store_next_cell-requires-clause-room : goal.store_next_cell-requires-clause-room
store_next_cell-requires-clause-room g c = let inv = c.loop-word.invariant in let test = c.loop-word-test.true in let v : View = c.args.seat.now.me.0 in let i : ℕ = c.loop-word.word-index in
    subst (λ (n : ℕ). IsRoomyAt c.args.words.now.shape.cells n c.loop-word.seat.me.0) (sym (to_store v c.loop-word.seat.me.0 c.args.emitter i c.args.block.now (omega arith) inv.1))
    (subst (IsRoomyAt c.args.words.now.shape.cells (next_number v + i)) (sym inv.1) (c.requires.room (next_number v + i) (omega arith) (omega arith)))

pub store_next_cell-requires-clause-short : goal.store_next_cell-requires-clause-short
store_next_cell-requires-clause-short g c = let inv = c.loop-word.invariant in let test = c.loop-word-test.true in let few = c.requires.short in
    let count = ap (λ (v : View). length v.sequencing.flight) inv.1 ∙ entries_front c.args.emitter c.loop-word.word-index c.args.block.now (omega arith) in omega arith

pub loop-word-preserved : goal.loop-word-preserved
loop-word-preserved g c = let inv = c.loop-word.invariant in let test = c.loop-word-test.true in let seat = c.store_next_cell.ensures.seat in let v : View = c.args.seat.now.me.0 in let i : ℕ = c.loop-word.word-index in (
  (seat.0 ∙ inv.0.0, seat.1 ∙ inv.0.1, seat.2 ∙ inv.0.2),
  c.store_next_cell.ensures.view ∙ (ap (λ (u : View). with_flight (u.sequencing.flight ++ (c.args.emitter, get_or c.args.block.now i 0) ∷ []) u) inv.1 ∙ ap (λ (es : List Entry). with_flight es v) (entries_more c.args.emitter i c.args.block.now test)),
  c.next_index-next.ensures (next_number v + i) inv.2 ∙ ap (λ (n : ℕ). cell_index c.args.words.now.shape n) (let e : next_number v + i + 1 ≡ next_number v + (i + 1) = omega arith in e),
)

pub loop-word-init : goal.loop-word-init
loop-word-init g c = let v : View = c.args.seat.now.me.0 in (
  (refl, refl, refl),
  (λ i. with_flight (c.requires.seat.2 i) v),
  c.requires.cell ∙ ap (λ (n : ℕ). cell_index c.args.words.now.shape n) (let e : next_number v ≡ next_number v + 0 = omega arith in e),
)

pub returns-clause-view : goal.returns-clause-view
returns-clause-view g c = let inv = c.loop-word.invariant in
    inv.1 ∙ ap (λ (l : List ℕ). with_flight (entries c.args.emitter l) c.args.seat.now.me.0) (take_all c.loop-word.word-index c.args.block.now c.loop-word-test.false)

pub returns-clause-cell : goal.returns-clause-cell
returns-clause-cell g c = let inv = c.loop-word.invariant in let past = c.loop-word-test.false in let few = c.loop-word.auto.word-index-end in
    inv.2 ∙ ap (λ (n : ℕ). cell_index c.args.words.now.shape n) (let e : next_number c.args.seat.now.me.0 + c.loop-word.word-index ≡ next_number c.args.seat.now.me.0 + length c.args.block.now = omega arith in e)
