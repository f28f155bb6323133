use Rattle.std.proofs.Common.{◌≡◌, ℕ, suc, ◌+◌, List, [], ◌∷◌, ◌++◌, length, map, refl, sym, ap, ◌∙◌, arith, length-append, append_assoc}
use Rattle.std.proofs.lemmas.List.{append-nil, length-map, map_push}
use Rattle.shared_lane.specs.declared.view.View.{View}
use Rattle.shared_lane.specs.declared.view.Shape.{Shape}
use Rattle.shared_lane.specs.Layout.{cell_index, cell_word}
use Rattle.shared_lane.specs.Steps.{position, next_number, next_to_pick}
use Rattle.shared_lane.specs.Picks.{cell_loads, with_picked}
use Rattle.shared_lane.proofs.reader.blocks.pick_words.Goals as goal

loads_further : (key : Shape) (n : ℕ) (xs : List ℕ) (x : ℕ) → cell_loads key n xs ++ (cell_word key (n + length xs), x) ∷ [] ≡ cell_loads key n (xs ++ x ∷ [])
loads_further key n [] x = ap (λ (z : ℕ). (cell_word key z, x) ∷ []) (let e : n + 0 ≡ n = omega arith in e)
loads_further key n (y ∷ xs) x = ap (λ (l : List (ℕ × ℕ)). (cell_word key n, y) ∷ l)
    (ap (λ (z : ℕ). cell_loads key (suc n) xs ++ (cell_word key z, x) ∷ []) (let e : n + suc (length xs) ≡ suc n + length xs = omega arith in e) ∙ loads_further key (suc n) xs x)

-- one word more was picked
further : (key : Shape) (v w u : View) (xs : List ℕ) (x : ℕ) → w ≡ with_picked key xs v
    → u ≡ (let t : View = record w { loads = w.loads ++ (cell_word key (next_to_pick w.reading), x) ∷ []; reading = record w.reading { picked = w.reading.picked ++ x ∷ [] } } in t) → u ≡ with_picked key (xs ++ x ∷ []) v
further key v w u xs x was now = now ∙ (ap (λ (z : View). let t : View = record z { loads = z.loads ++ (cell_word key (next_to_pick z.reading), x) ∷ []; reading = record z.reading { picked = z.reading.picked ++ x ∷ [] } } in t) was
    ∙ ap (λ (l : List (ℕ × ℕ)). let t : View = record v { loads = l; reading = record v.reading { picked = xs ++ x ∷ [] } } in t)
    (append_assoc v.loads (cell_loads key (position v.reading) xs) ((cell_word key (position v.reading + length xs), x) ∷ []) ∙ ap (λ (l : List (ℕ × ℕ)). v.loads ++ l) (loads_further key (position v.reading) xs x)))

to_pick : (key : Shape) (v w : View) (xs : List ℕ) (i : ℕ) → length xs ≡ i → w ≡ with_picked key xs v → next_to_pick w.reading ≡ position v.reading + i
to_pick key v w xs i long is = ap (λ (z : View). next_to_pick z.reading) is ∙ ap (λ (z : ℕ). position v.reading + z) long

-- one value more was appended
read_more : {T : Type 0} (read : ℕ → T) (out was : List T) (xs : List ℕ) (x : ℕ) (v : T) → out ≡ was ++ map read xs → v ≡ read x → out ++ v ∷ [] ≡ was ++ map read (xs ++ x ∷ [])
read_more read out was xs x v is at = (λ i. is i ++ at i ∷ []) ∙ (append_assoc was (map read xs) (read x ∷ []) ∙ ap (λ (l : List _). was ++ l) (sym (map_push read xs x)))

pub loop-picked-init : goal.loop-picked-init
loop-picked-init g c = let v : View = c.args.seat.now.me.0 in (
  (refl, refl, refl),
  refl,
  c.requires.cell ∙ ap (λ (n : ℕ). cell_index c.args.words.now.shape n) (let e : position v.reading ≡ position v.reading + 0 = omega arith in e),
  ([], refl, sym (append-nil c.args.out.now.items), (λ i. record v { loads = sym (append-nil v.loads) i; reading = record v.reading { picked = c.requires.seat.2 i } })),
)

pub load_next_cell-word-requires-clause-seat : goal.load_next_cell-word-requires-clause-seat
load_next_cell-word-requires-clause-seat g c = let inv = c.loop-picked.invariant in (inv.0.0 ∙ c.requires.seat.0, ap (λ (v : View). v.reading.active) inv.3.3 ∙ c.requires.seat.1)

pub load_next_cell-word-requires-clause-cell : goal.load_next_cell-word-requires-clause-cell
load_next_cell-word-requires-clause-cell g c = let inv = c.loop-picked.invariant in
    inv.2 ∙ ap (λ (n : ℕ). cell_index c.args.words.now.shape n) (sym (to_pick c.args.words.now.shape c.args.seat.now.me.0 c.loop-picked.seat.me.0 inv.3.0 c.loop-picked._picked inv.3.1 inv.3.3))

pub load_next_cell-word-requires-clause-position : goal.load_next_cell-word-requires-clause-position
load_next_cell-word-requires-clause-position g c = let inv = c.loop-picked.invariant in let there = c.requires.there in let test = c.loop-picked-test.true in
    let at = to_pick c.args.words.now.shape c.args.seat.now.me.0 c.loop-picked.seat.me.0 inv.3.0 c.loop-picked._picked inv.3.1 inv.3.3 in let same = ap next_number inv.3.3 in omega arith

pub push_reserved-requires : goal.push_reserved-requires
push_reserved-requires g c = let inv = c.loop-picked.invariant in let room = c.requires.room in let test = c.loop-picked-test.true in let long = c.loop-picked.out.ok.0 in let cap = inv.1 in
    let count : length c.loop-picked.out.items ≡ length c.args.out.now.items + c.loop-picked._picked = ap length inv.3.2 ∙ (length-append c.args.out.now.items (map g.T.Word.read_as inv.3.0) ∙ ap (λ (z : ℕ). length c.args.out.now.items + z) (length-map inv.3.0 g.T.Word.read_as ∙ inv.3.1)) in omega arith

pub loop-picked-preserved : goal.loop-picked-preserved
loop-picked-preserved g c = let inv = c.loop-picked.invariant in let v : View = c.args.seat.now.me.0 in let key : Shape = c.args.words.now.shape in let xs : List ℕ = inv.3.0 in let x : ℕ = c.load_next_cell-word.result in let i : ℕ = c.loop-picked._picked in
    let load = c.load_next_cell-word.ensures in let push = c.push_reserved.ensures in let longer : length (xs ++ x ∷ []) ≡ length xs + 1 = length-append xs (x ∷ []) in let long = inv.3.1 in (
      (load.seat.0 ∙ inv.0.0, load.seat.1 ∙ inv.0.1, load.seat.2 ∙ inv.0.2),
      push.capacity ∙ inv.1,
      c.next_index-next.ensures (position v.reading + i) inv.2 ∙ ap (λ (n : ℕ). cell_index key n) (let e : position v.reading + i + 1 ≡ position v.reading + (i + 1) = omega arith in e),
      (
        xs ++ x ∷ [],
        omega arith,
        push.items ∙ read_more g.T.Word.read_as c.loop-picked.out.items c.args.out.now.items xs x c.from_word.result inv.3.2 c.from_word.ensures,
        further key v c.loop-picked.seat.me.0 c.load_next_cell-word.new.seat.me.0 xs x inv.3.3 load.view,
      ),
    )
