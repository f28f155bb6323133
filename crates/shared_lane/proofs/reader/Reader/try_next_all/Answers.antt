use Rattle.std.proofs.Common.{rules, arith, ◌≡◌, ℕ, ◌+◌, ◌-◌, ◌<◌, ◌≤◌, min, List, [], ◌∷◌, ◌++◌, length, map, replicate, take, Bool, true, false, refl, sym, ap, ◌∙◌, subst, append_assoc, length-append, Fits, w64}
use lib.ListN.{length-replicate}
use Rattle.std.specs.Vec.{vec_capacity}
use Rattle.std.proofs.lemmas.List.{append-nil}
use Rattle.std.proofs.Math.Seq.{take-append_seam}
use Rattle.shared_lane.specs.declared.view.View.{View}
use Rattle.shared_lane.specs.declared.view.Reading.{Reading}
use Rattle.shared_lane.specs.declared.view.Shape.{Shape}
use Rattle.shared_lane.specs.Law.{Entry, HasWords, received}
use Rattle.shared_lane.specs.Layout.{tail_word, cursor_word, cell_index}
use Rattle.shared_lane.specs.Steps.{position, got_picked, found_at}
use Rattle.shared_lane.specs.Views.{LaneSeen, ReaderSeen}
use Rattle.shared_lane.specs.Picks.{cell_loads}
use Rattle.shared_lane.proofs.Readings.{found_itself}
use Rattle.shared_lane.proofs.Stories.{position_found, found_twice, received_none, received_many, each_once}
use Rattle.shared_lane.proofs.reader.Reader.try_next_all.Goals as goal

two_and : {A : Type 0} (l : List A) (a b : A) (m : List A) → ((l ++ a ∷ []) ++ b ∷ []) ++ m ≡ l ++ a ∷ b ∷ m
two_and l a b m = append_assoc (l ++ a ∷ []) (b ∷ []) m ∙ append_assoc l (a ∷ []) (b ∷ m)

pub invariant_of-self : goal.invariant_of-self
invariant_of-self g c = let s = c.self.inside in let n : ℕ = c.load_own-at.result in let own = c.load_own-at.ensures in let tail = c.load_tail-tail.ensures in
    let of_lane = ap (λ (z : ReaderSeen). z.shape) c.self.view_is ∙ (c.requires.1 ∙ sym (ap (λ (z : LaneSeen). z.shape) c.words-words.ensures)) in
    found_itself s.seat c.load_tail-tail.new.seat s.place s.start s.at s.cell s.taken n c.index_from-cell.result c.self.invariant (ap (λ (v : View). v.reading) tail.view.0 ∙ ap (λ (v : View). v.reading) own.view.0)
    (ap (λ (v : View). v.shape) tail.view.0 ∙ ap (λ (v : View). v.shape) own.view.0) (tail.seat.2 ∙ own.seat.2) own.view.1 (c.index_from-cell.ensures ∙ ap (λ (z : Shape). cell_index z n) (sym of_lane))

pub invariant_of-self-then-found-at : goal.invariant_of-self-then-found-at
invariant_of-self-then-found-at g c = let s = c.self.inside in let inv = c.self.invariant in let r : Reading = s.seat.me.0.reading in let n : ℕ = c.load_own-at.result in let own = c.load_own-at.ensures in let tail = c.load_tail-tail.ensures in
    let pick = c.pick_words-next.ensures in let got' = c.receive_picked-found.ensures in let picked = pick.picked in let xs : List ℕ = picked.0 in let k : ℕ = c.min-count.result in
    let e2 = ap (λ (v : View). v.reading) tail.view.0 ∙ ap (λ (v : View). v.reading) own.view.0 in let e3 = ap (λ (v : View). v.reading) picked.3 ∙ ap (λ (x : Reading). let y : Reading = record x { picked = xs } in y) e2 in
    let m : ℕ = c.receive_picked-found.result in let miss = got'.view.1 c.if-found-at.true in
    let e4 = ap (λ (v : View). v.reading) miss.0 ∙ ap (found_at m) e3 in let pos = position_found n r own.view.1 in let p : ℕ = position r in let le = own.view.1 in
    let above : n < m = subst (λ (z : ℕ). z < m) (ap position e3 ∙ pos) miss.1 in
    let shape = ap (λ (v : View). v.shape) miss.0 ∙ ap (λ (v : View). v.shape) picked.3 ∙ ap (λ (v : View). v.shape) tail.view.0 ∙ ap (λ (v : View). v.shape) own.view.0 in
    let story = ap (λ (x : Reading). x.story) e4 ∙ (ap (λ (z : ℕ). (r.story ++ replicate (n - p) false) ++ replicate (m - z) false) pos ∙ found_twice p n m r.story le (omega arith)) in
    let of_lane : s.seat.me.0.shape ≡ c.words-words.result.now.shape = ap (λ (z : ReaderSeen). z.shape) c.self.view_is ∙ (c.requires.1 ∙ sym (ap (λ (z : LaneSeen). z.shape) c.words-words.ensures)) in record {
      active = ap (λ (x : Reading). x.active) e4 ∙ inv.active;
      holds_no_slot = got'.seat.2 ∙ pick.seat.2 ∙ tail.seat.2 ∙ own.seat.2 ∙ inv.holds_no_slot;
      place_is = ap (λ (x : Reading). x.place) e4 ∙ inv.place_is;
      inside = subst (λ (z : Shape). s.place < z.places) (sym shape) inv.inside;
      start_is = ap (λ (x : Reading). x.start) e4 ∙ inv.start_is;
      cell_is = c.index_of-self-inside.ensures ∙ ap (λ (z : Shape). cell_index z m) (sym (shape ∙ of_lane));
      at_is = sym (ap position e4 ∙ position_found m (record (found_at n r) { picked = xs }) (subst (λ (z : ℕ). z ≤ m) (sym pos) (omega arith)));
      taken_is = inv.taken_is ∙ sym (ap (λ (l : List Bool). length (received s.start l)) story ∙ received_none s.start (m - p) r.story);
    }

pub returns-then-found-at-clause-has : goal.returns-then-found-at-clause-has
returns-then-found-at-clause-has g c = rw (← c.self.view_is) (let s = c.self.inside in let inv = c.self.invariant in let r : Reading = s.seat.me.0.reading in let n : ℕ = c.load_own-at.result in let own = c.load_own-at.ensures in let tail = c.load_tail-tail.ensures in
    let pick = c.pick_words-next.ensures in let got' = c.receive_picked-found.ensures in let picked = pick.picked in let xs : List ℕ = picked.0 in let k : ℕ = c.min-count.result in
    let e2 = ap (λ (v : View). v.reading) tail.view.0 ∙ ap (λ (v : View). v.reading) own.view.0 in let e3 = ap (λ (v : View). v.reading) picked.3 ∙ ap (λ (x : Reading). let y : Reading = record x { picked = xs } in y) e2 in
    let m : ℕ = c.receive_picked-found.result in let miss = got'.view.1 c.if-found-at.true in
    let e4 = ap (λ (v : View). v.reading) miss.0 ∙ ap (found_at m) e3 in let pos = position_found n r own.view.1 in let p : ℕ = position r in let le = own.view.1 in
    let above : n < m = subst (λ (z : ℕ). z < m) (ap position e3 ∙ pos) miss.1 in
    let shape = ap (λ (v : View). v.shape) picked.3 ∙ ap (λ (v : View). v.shape) tail.view.0 ∙ ap (λ (v : View). v.shape) own.view.0 in
    let story = ap (λ (x : Reading). x.story) e4 ∙ (ap (λ (z : ℕ). (r.story ++ replicate (n - p) false) ++ replicate (m - z) false) pos ∙ found_twice p n m r.story le (omega arith)) in
    let tail_is : ℕ = c.load_tail-tail.result in let before = s.seat.me.0.loads in
    let there = ap (λ (v : View). position v.reading) own.view.0 ∙ pos in let near = tail.view.4 in let ne = c.if-tail-at.false in
    let room : k ≡ min (vec_capacity c.args.out.now - length c.args.out.now.items) (c.load_tail-tail.result - n) = let a = c.min-count.ensures in let b = c.capacity.ensures in let d = c.len-before.ensures in let long = c.args.out.now.ok.0 in omega arith in
    let of_lane : s.seat.me.0.shape ≡ c.words-words.result.now.shape = ap (λ (z : ReaderSeen). z.shape) c.self.view_is ∙ (c.requires.1 ∙ sym (ap (λ (z : LaneSeen). z.shape) c.words-words.ensures)) in
    let begins = ap (λ (v : View). v.shape) tail.view.0 ∙ ap (λ (v : View). v.shape) own.view.0 in let seen = ap (λ (v : View). v.seen) miss.0 ∙ ap (λ (v : View). v.seen) picked.3 in
    let loads = ap (λ (v : View). v.loads) miss.0 ∙ (ap (λ (v : View). v.loads) picked.3
    ∙ ap (λ (l : List (ℕ × ℕ)). l ++ cell_loads c.words-words.result.now.shape (position c.load_tail-tail.new.seat.me.0.reading) xs)
    (ap (λ (v : View). v.loads) tail.view.0 ∙ ap (λ (l : List (ℕ × ℕ)). l ++ (tail_word, tail_is) ∷ []) (ap (λ (v : View). v.loads) own.view.0))) in
    let len : c.len-before.result ≡ length c.args.out.now.items = let d = c.len-before.ensures in let long = c.args.out.now.ok.0 in omega arith in (
      [],
      c.truncate.ensures.items ∙ ((λ i. take (len i) (picked.2 i)) ∙ (take-append_seam c.args.out.now.items (map g.T.Word.read_as xs) ∙ sym (append-nil c.args.out.now.items))),
      (
        refl,
        (
          m,
          omega arith,
          ap (λ (z : Shape). z.drops) (sym shape) ∙ miss.2,
          story,
          (
            n,
            tail_is,
            xs,
            le,
            above,
            omega arith,
            picked.1 ∙ room,
            tail.view.3 ∙ (λ i. (begins i).first + length (sym seen i)),
            loads ∙ (two_and before _ _ _ ∙ (λ i. before ++ (cursor_word (sym inv.place_is i), n) ∷ (tail_word, tail_is) ∷ cell_loads (sym of_lane i) ((ap position e2 ∙ pos) i) xs)),
          ),
        ),
      ),
    ))

pub overflow_add-self-2 : goal.overflow_add-self-2
overflow_add-self-2 g c = let s = c.self.inside in let inv = c.self.invariant in let r : Reading = s.seat.me.0.reading in let n : ℕ = c.load_own-at.result in let own = c.load_own-at.ensures in let tail = c.load_tail-tail.ensures in let once = each_once s.start r.story in let counted = inv.taken_is in
    let here : position c.load_own-at.new.seat.me.0.reading ≡ n = ap (λ (v : View). position v.reading) own.view.0 ∙ position_found n r own.view.1 in let le = tail.view.4 in let k : ℕ = c.min-count.result in
    let room : k ≡ min (vec_capacity c.args.out.now - length c.args.out.now.items) (c.load_tail-tail.result - n) = let a = c.min-count.ensures in let b = c.capacity.ensures in let d = c.len-before.ensures in let long = c.args.out.now.ok.0 in omega arith in
    let small : Fits w64 c.load_tail-tail.result = search rules in let few = own.view.1 in record { fits = let h = small.fits in omega arith }

pub invariant_of-self-2 : goal.invariant_of-self-2
invariant_of-self-2 g c = let s = c.self.inside in let inv = c.self.invariant in let r : Reading = s.seat.me.0.reading in let n : ℕ = c.load_own-at.result in let own = c.load_own-at.ensures in let tail = c.load_tail-tail.ensures in
    let pick = c.pick_words-next.ensures in let got' = c.receive_picked-found.ensures in let picked = pick.picked in let xs : List ℕ = picked.0 in let k : ℕ = c.min-count.result in
    let e2 = ap (λ (v : View). v.reading) tail.view.0 ∙ ap (λ (v : View). v.reading) own.view.0 in let e3 = ap (λ (v : View). v.reading) picked.3 ∙ ap (λ (x : Reading). let y : Reading = record x { picked = xs } in y) e2 in
    let hit = got'.view.0 c.if-found-at.false in
    let e4 = ap (λ (v : View). v.reading) hit.0 ∙ ap got_picked e3 in let pos = position_found n r own.view.1 in let p : ℕ = position r in
    let shape = ap (λ (v : View). v.shape) hit.0 ∙ ap (λ (v : View). v.shape) picked.3 ∙ ap (λ (v : View). v.shape) tail.view.0 ∙ ap (λ (v : View). v.shape) own.view.0 in
    let bs : List Bool = r.story ++ replicate (n - p) false in let count : length xs ≡ k = picked.1 in
    let longer : length (bs ++ replicate (length xs) true) ≡ length bs + length xs = length-append bs (replicate (length xs) true) ∙ ap (λ (z : ℕ). length bs + z) (length-replicate (length xs) true) in
    let there : position (got_picked (record (found_at n r) { picked = xs })) ≡ n + k = omega arith in
    let of_lane : s.seat.me.0.shape ≡ c.words-words.result.now.shape = ap (λ (z : ReaderSeen). z.shape) c.self.view_is ∙ (c.requires.1 ∙ sym (ap (λ (z : LaneSeen). z.shape) c.words-words.ensures)) in record {
      active = ap (λ (x : Reading). x.active) e4 ∙ inv.active;
      holds_no_slot = got'.seat.2 ∙ pick.seat.2 ∙ tail.seat.2 ∙ own.seat.2 ∙ inv.holds_no_slot;
      place_is = ap (λ (x : Reading). x.place) e4 ∙ inv.place_is;
      inside = subst (λ (z : Shape). s.place < z.places) (sym shape) inv.inside;
      start_is = ap (λ (x : Reading). x.start) e4 ∙ inv.start_is;
      at_is = sym (ap position e4 ∙ there);
      cell_is = pick.cell ∙ (λ i. cell_index (sym (shape ∙ of_lane) i) ((ap position e2 ∙ pos) i + k));
      taken_is = (λ i. (inv.taken_is ∙ sym (received_none s.start (n - p) r.story)) i + (sym count) i) ∙ sym (ap (λ (x : Reading). length (received s.start x.story)) e4 ∙ received_many s.start (length xs) bs);
    }

pub returns-clause-has : goal.returns-clause-has
returns-clause-has g c = rw (← c.self.view_is) (let s = c.self.inside in let inv = c.self.invariant in let r : Reading = s.seat.me.0.reading in let n : ℕ = c.load_own-at.result in let own = c.load_own-at.ensures in let tail = c.load_tail-tail.ensures in
    let pick = c.pick_words-next.ensures in let got' = c.receive_picked-found.ensures in let picked = pick.picked in let xs : List ℕ = picked.0 in let k : ℕ = c.min-count.result in
    let e2 = ap (λ (v : View). v.reading) tail.view.0 ∙ ap (λ (v : View). v.reading) own.view.0 in let e3 = ap (λ (v : View). v.reading) picked.3 ∙ ap (λ (x : Reading). let y : Reading = record x { picked = xs } in y) e2 in
    let hit = got'.view.0 c.if-found-at.false in
    let e4 = ap (λ (v : View). v.reading) hit.0 ∙ ap got_picked e3 in let pos = position_found n r own.view.1 in let tail_is : ℕ = c.load_tail-tail.result in
    let shape = ap (λ (v : View). v.shape) picked.3 ∙ ap (λ (v : View). v.shape) tail.view.0 ∙ ap (λ (v : View). v.shape) own.view.0 in
    let begins = ap (λ (v : View). v.shape) tail.view.0 ∙ ap (λ (v : View). v.shape) own.view.0 in let seen = ap (λ (v : View). v.seen) hit.0 ∙ ap (λ (v : View). v.seen) picked.3 in
    let end : tail_is ≡ s.seat.me.0.shape.first + length c.receive_picked-found.new.seat.me.0.seen = tail.view.3 ∙ (λ i. (begins i).first + length (sym seen i)) in
    let there = ap (λ (v : View). position v.reading) own.view.0 ∙ pos in let near = tail.view.4 in let ne = c.if-tail-at.false in
    let room : k ≡ min (vec_capacity c.args.out.now - length c.args.out.now.items) (c.load_tail-tail.result - n) = let a = c.min-count.ensures in let b = c.capacity.ensures in let d = c.len-before.ensures in let long = c.args.out.now.ok.0 in omega arith in (
      xs,
      picked.2,
      (
        n,
        own.view.1,
        own.view.2,
        ap (λ (x : Reading). x.story) e4 ∙ ap (λ (z : ℕ). (r.story ++ replicate (n - position r) false) ++ replicate z true) picked.1,
        subst (λ (z : Shape × List Entry × List ℕ). HasWords z.0.first z.1 n z.2) (λ i. (shape i, sym (ap (λ (v : View). v.seen) hit.0) i, ap (λ (x : Reading). x.picked) e3 i)) hit.1,
        picked.1,
        omega arith,
        omega arith,
      ),
    ))
