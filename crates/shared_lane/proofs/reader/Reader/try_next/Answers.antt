use Rattle.std.proofs.Common.{rules, arith, ◌≡◌, ℕ, ◌+◌, ◌-◌, ◌<◌, ◌≤◌, List, [], ◌∷◌, ◌++◌, length, replicate, get_or, Bool, true, false, refl, sym, ap, ◌∙◌, subst, append_assoc, Fits, w64}
use Rattle.shared_lane.specs.declared.view.View.{View}
use Rattle.shared_lane.specs.declared.view.Reading.{Reading}
use Rattle.shared_lane.specs.declared.view.Shape.{Shape}
use Rattle.shared_lane.specs.Law.{Entry, HasWord, received}
use Rattle.shared_lane.specs.Layout.{tail_word, cursor_word, cell_word, cell_index}
use Rattle.shared_lane.specs.Steps.{position, got, found_at, picked_up}
use Rattle.shared_lane.specs.Kept.{IsReading}
use Rattle.shared_lane.specs.Views.{LaneSeen, ReaderSeen}
use Rattle.shared_lane.proofs.Readings.{found_itself}
use Rattle.shared_lane.proofs.Stories.{position_found, found_twice, received_none, received_one, each_once}
use Rattle.shared_lane.proofs.reader.Reader.try_next.Goals as goal

three : {A : Type 0} (l : List A) (a b c : A) → ((l ++ a ∷ []) ++ b ∷ []) ++ c ∷ [] ≡ l ++ a ∷ b ∷ c ∷ []
three l a b c = append_assoc (l ++ a ∷ []) (b ∷ []) (c ∷ []) ∙ append_assoc l (a ∷ []) (b ∷ c ∷ [])

pub index_from-cell-requires : goal.index_from-cell-requires
index_from-cell-requires g c = let s = c.self.inside in let of_lane = ap (λ (z : ReaderSeen). z.shape) c.self.view_is ∙ (c.requires.1 ∙ sym (ap (λ (z : LaneSeen). z.shape) c.words-words.ensures)) in
    c.self.invariant.cell_is ∙ ap (λ (z : Shape). cell_index z s.at) of_lane

pub load_cell-word-requires-clause-cell : goal.load_cell-word-requires-clause-cell
load_cell-word-requires-clause-cell g c = let r : Reading = c.self.inside.seat.me.0.reading in let n : ℕ = c.load_own-at.result in let own = c.load_own-at.ensures in let tail = c.load_tail-tail.ensures in
    let e = ap (λ (v : View). v.reading) tail.view.0 ∙ ap (λ (v : View). v.reading) own.view.0 in
    c.index_from-cell.ensures ∙ ap (λ (z : ℕ). cell_index c.words-words.result.now.shape z) (sym (ap position e ∙ position_found n r own.view.1))

pub invariant_of-self : goal.invariant_of-self
invariant_of-self g c = let s = c.self.inside in let n : ℕ = c.load_own-at.result in let own = c.load_own-at.ensures in let tail = c.load_tail-tail.ensures in
    let of_lane = ap (λ (z : ReaderSeen). z.shape) c.self.view_is ∙ (c.requires.1 ∙ sym (ap (λ (z : LaneSeen). z.shape) c.words-words.ensures)) in
    subst (λ (z : ℕ × ℕ). IsReading c.load_tail-tail.new.seat s.place s.start z.0 z.1 s.taken) (λ i. (sym c.stand_at.ensures.0 i, sym c.stand_at.ensures.1 i))
    (found_itself s.seat c.load_tail-tail.new.seat s.place s.start s.at s.cell s.taken n c.index_from-cell.result c.self.invariant (ap (λ (v : View). v.reading) tail.view.0 ∙ ap (λ (v : View). v.reading) own.view.0)
    (ap (λ (v : View). v.shape) tail.view.0 ∙ ap (λ (v : View). v.shape) own.view.0) (tail.seat.2 ∙ own.seat.2) own.view.1 (c.index_from-cell.ensures ∙ ap (λ (z : Shape). cell_index z n) (sym of_lane)))

pub invariant_of-self-then-found-at : goal.invariant_of-self-then-found-at
invariant_of-self-then-found-at g c = let s = c.self.inside in let inv = c.self.invariant in let r : Reading = s.seat.me.0.reading in let n : ℕ = c.load_own-at.result in let own = c.load_own-at.ensures in let tail = c.load_tail-tail.ensures in
    let cell = c.load_cell-word.ensures in let got' = c.receive-found.ensures in let m : ℕ = c.receive-found.result in let miss = got'.view.1 c.if-found-at.true in
    let e2 = ap (λ (v : View). v.reading) tail.view.0 ∙ ap (λ (v : View). v.reading) own.view.0 in let e3 = ap (λ (v : View). v.reading) cell.view ∙ ap (picked_up c.load_cell-word.result) e2 in
    let e4 = ap (λ (v : View). v.reading) miss.0 ∙ ap (found_at m) e3 in let pos = position_found n r own.view.1 in let p : ℕ = position r in let le = own.view.1 in
    let above : n < m = subst (λ (z : ℕ). z < m) (ap position e3 ∙ pos) miss.1 in
    let shape = ap (λ (v : View). v.shape) miss.0 ∙ ap (λ (v : View). v.shape) cell.view ∙ ap (λ (v : View). v.shape) tail.view.0 ∙ ap (λ (v : View). v.shape) own.view.0 in
    let story = ap (λ (x : Reading). x.story) e4 ∙ (ap (λ (z : ℕ). (r.story ++ replicate (n - p) false) ++ replicate (m - z) false) pos ∙ found_twice p n m r.story le (omega arith)) in
    let of_lane : s.seat.me.0.shape ≡ c.words-words.result.now.shape = ap (λ (z : ReaderSeen). z.shape) c.self.view_is ∙ (c.requires.1 ∙ sym (ap (λ (z : LaneSeen). z.shape) c.words-words.ensures)) in record {
      active = ap (λ (x : Reading). x.active) e4 ∙ inv.active;
      holds_no_slot = got'.seat.2 ∙ cell.seat.2 ∙ tail.seat.2 ∙ own.seat.2 ∙ inv.holds_no_slot;
      place_is = ap (λ (x : Reading). x.place) e4 ∙ inv.place_is;
      inside = subst (λ (z : Shape). s.place < z.places) (sym shape) inv.inside;
      start_is = ap (λ (x : Reading). x.start) e4 ∙ inv.start_is;
      cell_is = c.index_of-self-inside.ensures ∙ ap (λ (z : Shape). cell_index z m) (sym (shape ∙ of_lane));
      at_is = sym (ap position e4 ∙ position_found m (picked_up c.load_cell-word.result (found_at n r)) (subst (λ (z : ℕ). z ≤ m) (sym pos) (omega arith)));
      taken_is = inv.taken_is ∙ sym (ap (λ (l : List Bool). length (received s.start l)) story ∙ received_none s.start (m - p) r.story);
    }

pub returns-then-found-at-clause-has : goal.returns-then-found-at-clause-has
returns-then-found-at-clause-has g c = rw (← c.self.view_is) (let s = c.self.inside in let inv = c.self.invariant in let r : Reading = s.seat.me.0.reading in let n : ℕ = c.load_own-at.result in let own = c.load_own-at.ensures in let tail = c.load_tail-tail.ensures in
    let cell = c.load_cell-word.ensures in let got' = c.receive-found.ensures in let m : ℕ = c.receive-found.result in let miss = got'.view.1 c.if-found-at.true in
    let e2 = ap (λ (v : View). v.reading) tail.view.0 ∙ ap (λ (v : View). v.reading) own.view.0 in let e3 = ap (λ (v : View). v.reading) cell.view ∙ ap (picked_up c.load_cell-word.result) e2 in
    let e4 = ap (λ (v : View). v.reading) miss.0 ∙ ap (found_at m) e3 in let pos = position_found n r own.view.1 in let p : ℕ = position r in let le = own.view.1 in
    let above : n < m = subst (λ (z : ℕ). z < m) (ap position e3 ∙ pos) miss.1 in
    let shape = ap (λ (v : View). v.shape) cell.view ∙ ap (λ (v : View). v.shape) tail.view.0 ∙ ap (λ (v : View). v.shape) own.view.0 in
    let story = ap (λ (x : Reading). x.story) e4 ∙ (ap (λ (z : ℕ). (r.story ++ replicate (n - p) false) ++ replicate (m - z) false) pos ∙ found_twice p n m r.story le (omega arith)) in
    let tail_is : ℕ = c.load_tail-tail.result in let x : ℕ = c.load_cell-word.result in let before = s.seat.me.0.loads in
    let there = ap (λ (v : View). position v.reading) own.view.0 ∙ pos in let near = tail.view.4 in let ne = c.if-tail-at.false in
    let of_lane : s.seat.me.0.shape ≡ c.words-words.result.now.shape = ap (λ (z : ReaderSeen). z.shape) c.self.view_is ∙ (c.requires.1 ∙ sym (ap (λ (z : LaneSeen). z.shape) c.words-words.ensures)) in
    let begins = ap (λ (v : View). v.shape) tail.view.0 ∙ ap (λ (v : View). v.shape) own.view.0 in let seen = ap (λ (v : View). v.seen) miss.0 ∙ ap (λ (v : View). v.seen) cell.view in
    let word : cell_word c.words-words.result.now.shape (position c.load_tail-tail.new.seat.me.0.reading) ≡ cell_word s.seat.me.0.shape n = λ i. cell_word (sym of_lane i) ((ap position e2 ∙ pos) i) in
    let loads = ap (λ (v : View). v.loads) miss.0 ∙ (ap (λ (v : View). v.loads) cell.view
    ∙ ap (λ (l : List (ℕ × ℕ)). l ++ (cell_word c.words-words.result.now.shape (position c.load_tail-tail.new.seat.me.0.reading), x) ∷ [])
    (ap (λ (v : View). v.loads) tail.view.0 ∙ ap (λ (l : List (ℕ × ℕ)). l ++ (tail_word, tail_is) ∷ []) (ap (λ (v : View). v.loads) own.view.0))) in (
      m,
      omega arith,
      ap (λ (z : Shape). z.drops) (sym shape) ∙ miss.2,
      story,
      (
        n,
        tail_is,
        x,
        le,
        above,
        omega arith,
        tail.view.3 ∙ (λ i. (begins i).first + length (sym seen i)),
        loads ∙ (three before _ _ _ ∙ (λ i. before ++ (cursor_word (sym inv.place_is i), n) ∷ (tail_word, tail_is) ∷ (word i, x) ∷ [])),
      ),
    ))

pub overflow_add-self-2 : goal.overflow_add-self-2
overflow_add-self-2 g c = let s = c.self.inside in let inv = c.self.invariant in let r : Reading = s.seat.me.0.reading in let n : ℕ = c.load_own-at.result in let once = each_once s.start r.story in let own = c.load_own-at.ensures.view in let counted = inv.taken_is in
    let here : position c.load_own-at.new.seat.me.0.reading ≡ n = ap (λ (v : View). position v.reading) own.0 ∙ position_found n r own.1 in let le = c.load_tail-tail.ensures.view.4 in let ne = c.if-tail-at.false in
    let small : Fits w64 c.load_tail-tail.result = search rules in let few = own.1 in record { fits = let h = small.fits in omega arith }

pub invariant_of-self-2 : goal.invariant_of-self-2
invariant_of-self-2 g c = let s = c.self.inside in let inv = c.self.invariant in let r : Reading = s.seat.me.0.reading in let n : ℕ = c.load_own-at.result in let own = c.load_own-at.ensures in let tail = c.load_tail-tail.ensures in
    let cell = c.load_cell-word.ensures in let got' = c.receive-found.ensures in let hit = got'.view.0 c.if-found-at.false in
    let e2 = ap (λ (v : View). v.reading) tail.view.0 ∙ ap (λ (v : View). v.reading) own.view.0 in let e3 = ap (λ (v : View). v.reading) cell.view ∙ ap (picked_up c.load_cell-word.result) e2 in
    let e4 = ap (λ (v : View). v.reading) hit.0 ∙ ap got e3 in let pos = position_found n r own.view.1 in let p : ℕ = position r in
    let shape = ap (λ (v : View). v.shape) hit.0 ∙ ap (λ (v : View). v.shape) cell.view ∙ ap (λ (v : View). v.shape) tail.view.0 ∙ ap (λ (v : View). v.shape) own.view.0 in
    let bs : List Bool = r.story ++ replicate (n - p) false in let longer : length (bs ++ true ∷ []) ≡ length bs + 1 = Rattle.std.proofs.Common.length-append bs (true ∷ []) in
    let there : position (got (found_at n r)) ≡ n + 1 = omega arith in
    let of_lane : s.seat.me.0.shape ≡ c.words-words.result.now.shape = ap (λ (z : ReaderSeen). z.shape) c.self.view_is ∙ (c.requires.1 ∙ sym (ap (λ (z : LaneSeen). z.shape) c.words-words.ensures)) in record {
      active = ap (λ (x : Reading). x.active) e4 ∙ inv.active;
      holds_no_slot = got'.seat.2 ∙ cell.seat.2 ∙ tail.seat.2 ∙ own.seat.2 ∙ inv.holds_no_slot;
      place_is = ap (λ (x : Reading). x.place) e4 ∙ inv.place_is;
      inside = subst (λ (z : Shape). s.place < z.places) (sym shape) inv.inside;
      start_is = ap (λ (x : Reading). x.start) e4 ∙ inv.start_is;
      at_is = sym (ap position e4 ∙ there);
      cell_is = c.next_index-self-inside.ensures n c.index_from-cell.ensures ∙ ap (λ (z : Shape). cell_index z (n + 1)) (sym (shape ∙ of_lane));
      taken_is = ap (λ (z : ℕ). z + 1) (inv.taken_is ∙ sym (received_none s.start (n - p) r.story)) ∙ sym (ap (λ (x : Reading). length (received s.start x.story)) e4 ∙ received_one s.start bs);
    }

pub returns-clause-has : goal.returns-clause-has
returns-clause-has g c = rw (← c.self.view_is) (let s = c.self.inside in let inv = c.self.invariant in let r : Reading = s.seat.me.0.reading in let n : ℕ = c.load_own-at.result in let own = c.load_own-at.ensures in let tail = c.load_tail-tail.ensures in
    let cell = c.load_cell-word.ensures in let got' = c.receive-found.ensures in let hit = got'.view.0 c.if-found-at.false in
    let e2 = ap (λ (v : View). v.reading) tail.view.0 ∙ ap (λ (v : View). v.reading) own.view.0 in let e3 = ap (λ (v : View). v.reading) cell.view ∙ ap (picked_up c.load_cell-word.result) e2 in
    let e4 = ap (λ (v : View). v.reading) hit.0 ∙ ap got e3 in let pos = position_found n r own.view.1 in
    let shape = ap (λ (v : View). v.shape) cell.view ∙ ap (λ (v : View). v.shape) tail.view.0 ∙ ap (λ (v : View). v.shape) own.view.0 in (
      n,
      own.view.1,
      own.view.2,
      ap (λ (x : Reading). x.story) e4,
      subst (λ (z : Shape × List Entry × ℕ). HasWord z.0.first z.1 n z.2) (λ i. (shape i, sym (ap (λ (v : View). v.seen) hit.0) i, get_or (ap (λ (x : Reading). x.picked) e3 i) 0 0)) hit.1,
    ))
