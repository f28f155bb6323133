-- What a step leaves as it was.
use Rattle.std.proofs.Common.{◌≡◌, ◌≢◌, ℕ, ◌+◌, ◌<◌, List, ◌++◌, length, get_or, set, sym, refl, ap, ◌∙◌, subst, ⊎_elim, arith, length-set, append_assoc, get_or-set_other, get_or-set_same}
use mathlib.Core.Logic.{dite}
use mathlib.Core.Option.{some}
use native.Mathlib.Decide.{ℕ_discrete}
use lib.ListN.{get_elem?}
use lib.Seq.{set-get_or}
use Rattle.atomic_table.specs.Table.{State}
use Rattle.atomic_table.proofs.Lists.{at_set}
use Rattle.shared_lane.specs.declared.view.Shape.{Shape}
use Rattle.shared_lane.specs.declared.view.Reading.{Reading}
use Rattle.shared_lane.specs.declared.view.View.{View}
use Rattle.shared_lane.specs.Layout.{cursor_word, cell_word}
use Rattle.flow_terms.specs.Lists.{IsPrefix}
use Rattle.shared_lane.specs.Law.{Place, PlaceOk, QuitOk, IsOver, SeatOk, Law}
use Rattle.shared_lane.proofs.Apart.{cursor_is_no_tail, cursors_differ, cell_is_no_cursor, cursor_within}

abbrev pick : {A : Type 0} {P : Type 0} → Dec P → A → A → A
pick (yes _) a b = a
pick (no _) a b = b

pub put : (ℕ → Place) → ℕ → Place → ℕ → Place
put f i c j = pick (ℕ_discrete j i) c (f j)

pub put_here : (f : ℕ → Place) (i : ℕ) (c : Place) → put f i c i ≡ c
unfolding put
put_here f i c = go (ℕ_discrete i i)
  where
    go : (d : Dec (i ≡ i)) → pick d c (f i) ≡ c
    go (yes _) = refl
    go (no n) = absurd (n refl)

pub put_else : (f : ℕ → Place) (i : ℕ) (c : Place) (j : ℕ) → j ≢ i → put f i c j ≡ f j
unfolding put
put_else f i c j other = go (ℕ_discrete j i)
  where
    go : (d : Dec (j ≡ i)) → pick d c (f j) ≡ f j
    go (yes e) = absurd (other e)
    go (no _) = refl

-- what holds of all views but one's holds of all
pub seats_stay : (K : ℕ → View → Type 0) (vs : List View) (me : ℕ) (w : View) → K me w → ((j : ℕ) (v : View) → j ≢ me → get_elem? vs j ≡ some v → K j v)
    → (j : ℕ) (v : View) → get_elem? (set vs me w) j ≡ some v → K j v
seats_stay K vs me w mine others j v e = ⊎_elim (λ (t : (j ≡ me) × (w ≡ v)). subst (λ (x : ℕ × View). K x.0 x.1) (λ i. (sym t.0 i, t.1 i)) mine)
    (λ (t : (j ≢ me) × (get_elem? vs j ≡ some v)). others j v t.0 t.1) (at_set vs me j w v e)

pub prefix_more : {A : Type 0} (xs start : List A) (more : List A) → IsPrefix start xs → IsPrefix start (xs ++ more)
prefix_more xs start more b = (b.0 ++ more, ap (λ l. l ++ more) b.1 ∙ append_assoc start b.0 more)

-- what a seat closed stays closed, or was opened again, where a place changes in a way that it may
pub quit_stays : (key : Shape) (place : ℕ → Place) (p : ℕ) (pl : Place) (rd : Reading) → (IsOver rd (place p) → IsOver rd pl) → QuitOk key place rd → QuitOk key (put place p pl) rd
quit_stays key place p pl rd stays was h = let o = was h in let over : IsOver rd (place rd.place) = o.2 in (
  o.0,
  o.1,
  dite (ℕ_discrete rd.place p)
      (λ e. subst (IsOver rd) (sym (put_here place p pl) ∙ ap (put place p pl) (sym e)) (stays (subst (λ (z : ℕ). IsOver rd (place z)) e over)))
      (λ ne. subst (IsOver rd) (sym (put_else place p pl rd.place ne)) over),
)

module _ {S : Type 0} (key : Shape) where
  -- what leaves the words, the log and the places as they were
  pub reseated : (s : State S View) (r : Law key s) (views : List View) → ((j : ℕ) (v : View) → get_elem? views j ≡ some v → SeatOk key r.log r.flight r.place r.sequencer j v) → Law key record { words = s.words; homes = s.homes; views = views }
  reseated s r views seats = record {
    log = r.log;
    flight = r.flight;
    sequencer = r.sequencer;
    place = r.place;
    wide = r.wide;
    some_cell = r.some_cell;
    short = r.short;
    bounded = r.bounded;
    tail = r.tail;
    each_cell = r.each_cell;
    each_place = r.each_place;
    each_seat = seats;
  }

  -- a step that leaves them so
  pub unmoved : (s : State S View) (r : Law key s) (i me : ℕ) (w : View) → SeatOk key r.log r.flight r.place r.sequencer me w
      → Law key record { words = set s.words i (get_or s.words i 0); homes = s.homes; views = set s.views me w }
  unmoved s r i me w mine = subst (λ (ws : List ℕ). Law key (let t : State S View = record { words = ws; homes = s.homes; views = set s.views me w } in t)) (sym (set-get_or s.words i 0))
      (reseated s r (set s.views me w) (seats_stay (SeatOk key r.log r.flight r.place r.sequencer) s.views me w mine (λ j v _. r.each_seat j v)))

  -- a step that stores x in the cursor of the place p
  pub place_step : (s : State S View) (r : Law key s) (p x me : ℕ) (pl : Place) (w : View) → p < key.places → PlaceOk key (length r.flight) (key.first + length r.log) pl x
      → SeatOk key r.log r.flight (put r.place p pl) r.sequencer me w
      → ((j : ℕ) (v : View) → j ≢ me → get_elem? s.views j ≡ some v → SeatOk key r.log r.flight (put r.place p pl) r.sequencer j v)
      → Law key record { words = set s.words (cursor_word p) x; homes = s.homes; views = set s.views me w }
  place_step s r p x me pl w inside ok mine others = record {
    log = r.log;
    flight = r.flight;
    sequencer = r.sequencer;
    place = put r.place p pl;
    wide = length-set s.words (cursor_word p) x ∙ r.wide;
    some_cell = r.some_cell;
    short = r.short;
    bounded = r.bounded;
    tail = get_or-set_other s.words (cursor_word p) 0 x 0 (cursor_is_no_tail p) ∙ r.tail;
    each_cell = λ i e y at near. get_or-set_other s.words (cursor_word p) (cell_word key (key.first + i)) x 0 (cell_is_no_cursor key p (key.first + i) inside) ∙ r.each_cell i e y at near;
    each_place = λ q l. dite (ℕ_discrete q p)
        (λ e. let word : get_or (set s.words (cursor_word p) x) (cursor_word q) 0 ≡ x = ap (λ (z : ℕ). get_or (set s.words (cursor_word p) x) (cursor_word z) 0) e ∙ get_or-set_same s.words (cursor_word p) x 0 (let wide = r.wide in let h = cursor_within key p inside r.some_cell in omega arith) in
        subst (λ (z : Place × ℕ). PlaceOk key (length r.flight) (key.first + length r.log) z.0 z.1) (λ c. ((sym (put_here r.place p pl) ∙ ap (put r.place p pl) (sym e)) c, sym word c)) ok)
        (λ ne. subst (λ (z : Place × ℕ). PlaceOk key (length r.flight) (key.first + length r.log) z.0 z.1) (λ c. (sym (put_else r.place p pl q ne) c, sym (get_or-set_other s.words (cursor_word p) (cursor_word q) x 0 (λ e. ne (cursors_differ q p e))) c)) (r.each_place q l));
    each_seat = seats_stay (SeatOk key r.log r.flight (put r.place p pl) r.sequencer) s.views me w mine others;
  }
