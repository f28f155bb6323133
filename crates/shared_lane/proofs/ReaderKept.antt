-- The reader's steps keep the law.
use Rattle.std.proofs.Common.{◌≡◌, ◌≢◌, ◌⊎◌, inl, inr, zero, ℕ, suc, ◌+◌, ◌-◌, ◌<◌, ◌≤◌, eqb, Bool, true, false, List, [], ◌∷◌, ◌++◌, length, replicate, get_or, sym, refl, ap, ◌∙◌, subst, ⊎_elim, arith, length-append, eq-eqb, ne_eqb}
use mathlib.Core.Logic.{dite}
use mathlib.Core.Option.{some, none, some-injective, some-ne-none}
use native.Mathlib.Decide.{ℕ_discrete}
use lib.ListN.{get_elem?, length-replicate}
use prog.Atomic.{either}
use Rattle.std.proofs.lemmas.List.{append-nil, replicate-append-replicate}
use Rattle.atomic_table.specs.Table.{State, Me, step, keeps, stepped, Allows}
use Rattle.atomic_table.proofs.Lists.{at_longer}
use Rattle.shared_lane.specs.declared.view.Shape.{Shape}
use Rattle.shared_lane.specs.declared.view.Known.{Known}
use Rattle.shared_lane.specs.declared.view.Sequencing.{Sequencing}
use Rattle.shared_lane.specs.declared.view.Reading.{Reading}
use Rattle.shared_lane.specs.declared.view.View.{View}
use Rattle.shared_lane.specs.Layout.{cursor_word, cell_word}
use Rattle.flow_terms.specs.Lists.{IsPrefix}
use Rattle.shared_lane.specs.Law.{Entry, closed, HasWord, Place, cursor, PlaceOk, KnownOk, SequencerOk, ReaderOk, SeatOk, IsOver, Law}
use Rattle.shared_lane.specs.Steps.{position, next_to_pick, next_number, got, got_picked, found_at, ended, noticed, picked, picked_more, took, took_picked, looked, quit}
use Rattle.shared_lane.proofs.Lists.{which, not_both, there, within, index_there, at_end, some_length, prefix_self, prefix_length, prefix_at, none_lost, lost_none}
use Rattle.shared_lane.proofs.Frames.{put, put_here, put_else, quit_stays, unmoved, place_step}

module _ (key : Shape) where
  -- how far the reader's own story is behind its cursor
  pub reaches : (log : List Entry) (j : ℕ) (r : Reading) (pl : Place) (ok : ReaderOk key log j r pl) → cursor pl ≡ position r + ok.story.0
  reaches log j r pl ok = let k : ℕ = ok.story.0 in let start : pl.start ≡ r.start = ok.start in
      let long : length pl.story ≡ length r.story + k = ap length ok.story.1 ∙ (length-append r.story (replicate k false) ∙ ap (λ (z : ℕ). length r.story + z) (length-replicate k false)) in omega arith

  -- where the story has grown by what was lost
  found_story : (log : List Entry) (j : ℕ) (r : Reading) (pl : Place) (ok : ReaderOk key log j r pl) → pl.story ≡ (r.story ++ replicate (cursor pl - position r) false) ++ replicate 0 false
  found_story log j r pl ok = let reach = reaches log j r pl ok in let k : ℕ = ok.story.0 in let same : cursor pl - position r ≡ k = omega arith in
      ok.story.1 ∙ (ap (λ (z : ℕ). r.story ++ replicate z false) (sym same) ∙ sym (append-nil (r.story ++ replicate (cursor pl - position r) false)))

  pub whole_story : (log : List Entry) (j n : ℕ) (r : Reading) (pl : Place) (ok : ReaderOk key log j r pl) → n ≡ cursor pl → pl.story ≡ (found_at n r).story
  whole_story log j n r pl ok is = found_story log j r pl ok ∙ (append-nil (r.story ++ replicate (cursor pl - position r) false) ∙ ap (λ (z : ℕ). r.story ++ replicate (z - position r) false) (sym is))

  pub found_ok : (log : List Entry) (j n : ℕ) (r : Reading) (pl : Place) (ok : ReaderOk key log j r pl) → n ≡ cursor pl → ReaderOk key log j (found_at n r) pl
  found_ok log j n r pl ok is = record {
    inside = ok.inside;
    live = ok.live;
    handed = ok.handed;
    seat = ok.seat;
    opening = ok.opening;
    start = ok.start;
    story = (0, found_story log j r pl ok ∙ ap (λ (z : ℕ). (r.story ++ replicate (z - position r) false) ++ replicate 0 false) (sym is));
    picked = λ _ i x e. absurd (some-ne-none x (sym e));
  }

  pub no_drop : (ahead tail w : ℕ) (log : List Entry) (j : ℕ) (r : Reading) (pl : Place) (ok : ReaderOk key log j r pl) → PlaceOk key ahead tail pl w → key.drops ≡ false → cursor pl ≡ position r
  no_drop ahead tail w log j r pl ok all none_drops = let a = all.all_received none_drops in let b : ok.story.0 ≡ 0 = none_lost a.0 ok.story.0 r.story (sym a.1 ∙ ok.story.1) in
      let reach = reaches log j r pl ok in omega arith

  -- the sequencer, where a place changes in a way that it may
  pub sequencer_stays : (log flight : List Entry) (place : ℕ → Place) (sequencer j p : ℕ) (pl : Place) (v : View) → ((k : Known) → KnownOk k (place p) → KnownOk k pl)
      → (v.sequencing.active ≡ true → (v.shape ≡ key) × (v.seen ≡ log) × SequencerOk key flight place sequencer j v.sequencing)
      → v.sequencing.active ≡ true → (v.shape ≡ key) × (v.seen ≡ log) × SequencerOk key flight (put place p pl) sequencer j v.sequencing
  sequencer_stays log flight place sequencer j p pl v stays was act = let o = was act in (
    o.0,
    o.1,
    record {
      seat = o.2.seat;
      in_flight = o.2.in_flight;
      count = o.2.count;
      knows = λ q k e. dite (ℕ_discrete q p)
          (λ same. subst (KnownOk k) (sym (put_here place p pl) ∙ ap (put place p pl) (sym same)) (stays k (subst (λ (z : ℕ). KnownOk k (place z)) same (o.2.knows q k e))))
          (λ ne. subst (KnownOk k) (sym (put_else place p pl q ne)) (o.2.knows q k e));
    },
  )

  module _ {S : Type 0} where
    -- the seat's own reader, its place, and the word of its cursor
    mine : (s : State S View) (r : Law key s) (id : ℕ) (v : View) → get_elem? s.views id ≡ some v → v.reading.active ≡ true
        → (v.shape ≡ key) × ReaderOk key r.log id v.reading (r.place v.reading.place) × PlaceOk key (length r.flight) (key.first + length r.log) (r.place v.reading.place) (get_or s.words (cursor_word v.reading.place) 0)
    mine s r id v at act = let o = (r.each_seat id v at).reading act in (o.0, o.1, r.each_place v.reading.place o.1.inside)

    pub notices : (slots id : ℕ) (me : Me S View) → me.0.reading.active ≡ true → Allows (Law key) slots id me 0 (λ n. n) (noticed (step slots 0 0 0 none) me)
    notices slots id me act s r deep at small = let v : View = me.0 in let n : ℕ = get_or s.words 0 0 in let own = mine s r id v at act in let ok = r.each_seat id v at in let shape : v.shape ≡ key = own.0 in
        let w : View = record v { seen = r.log; told = []; loads = v.loads ++ (0, n) ∷ [] } in
        let is : n ≡ v.shape.first + length r.log = r.tail ∙ ap (λ (k : Shape). k.first + length r.log) (sym shape) in
        let reach = reaches r.log id v.reading (r.place v.reading.place) own.1 in let behind = own.2.behind own.1.live in let tail : n ≡ key.first + length r.log = r.tail in (
          w,
          keeps,
          tt,
          unmoved key s r 0 id w record { seen = prefix_self r.log; told = (r.log, refl); sequencing = λ a. let q = ok.sequencing a in (q.0, refl, q.2); reading = ok.reading; quit = ok.quit },
          (refl, (refl, ok.seen, ok.told, is, omega arith)),
        )

    -- a load of the cell of the number j after the position: the word found there is the accepted one, where the cursor still stands at the position
    cell_has : (s : State S View) (r : Law key s) (id i j : ℕ) (v : View) → get_elem? s.views id ≡ some v → v.reading.active ≡ true → i ≡ cell_word key (position v.reading + j) → position v.reading + j < next_number v
        → cursor (r.place v.reading.place) ≡ position v.reading → HasWord key.first r.log (cursor (r.place v.reading.place) + j) (get_or s.words i 0)
    cell_has s r id i j v at act word near e = let rd : Reading = v.reading in let pl : Place = r.place rd.place in let own = mine s r id v at act in let ok = r.each_seat id v at in let shorter = prefix_length r.log v.seen ok.seen in
        let first : v.shape.first ≡ key.first = ap (λ (k : Shape). k.first) own.0 in let below : position rd + j < v.shape.first + length v.seen = near in let after = own.2.after_first in
        let m : ℕ = (position rd + j) - key.first in let same : key.first + m ≡ position rd + j = omega arith in let a = there r.log m (omega arith) in let close = own.2.near own.1.live in
        let x : get_or s.words (cell_word key (key.first + m)) 0 ≡ a.0.1 = r.each_cell m a.0.0 a.0.1 (at_longer r.log r.flight m a.0 a.1) (omega arith) in
        let x' : get_or s.words i 0 ≡ a.0.1 = ap (λ (z : ℕ). get_or s.words z 0) (word ∙ ap (λ (z : ℕ). cell_word key z) (sym same)) ∙ x in
        (m, a.0.0, ap (λ (z : ℕ). z + j) e ∙ sym same, a.1 ∙ ap (λ (z : ℕ). some (a.0.0, z)) (sym x'))

    -- what was picked already, but for the word that is found now
    picks_at : (slots id i j : ℕ) (me : Me S View) (after : ℕ → List ℕ) → me.0.reading.active ≡ true → i ≡ cell_word key (position me.0.reading + j) → position me.0.reading + j < next_number me.0
        → ((n m x : ℕ) → get_elem? (after n) m ≡ some x → (get_elem? me.0.reading.picked m ≡ some x) ⊎ ((m ≡ j) × (n ≡ x)))
        → Allows (Law key) slots id me i (λ n. n) (λ n m'. (m'.1 ≡ me.1) × (let u : View = record me.0 { loads = me.0.loads ++ (i, n) ∷ []; reading = record me.0.reading { picked = after n } } in m'.0 ≡ u))
    picks_at slots id i j me after act word near adds s r deep at small = let v : View = me.0 in let rd : Reading = v.reading in let n : ℕ = get_or s.words i 0 in let own = mine s r id v at act in let ok = r.each_seat id v at in let pl : Place = r.place rd.place in
        let w : View = record v { loads = v.loads ++ (i, n) ∷ []; reading = record rd { picked = after n } } in (
          w,
          keeps,
          tt,
          unmoved key s r i id w record {
            seen = ok.seen;
            told = ok.told;
            sequencing = ok.sequencing;
            reading = λ _. (
              own.0,
              record {
                inside = own.1.inside;
                live = own.1.live;
                handed = own.1.handed;
                seat = own.1.seat;
                opening = own.1.opening;
                start = own.1.start;
                story = own.1.story;
                picked = λ e m x here. ⊎_elim (λ old. own.1.picked e m x old)
                    (λ (t : (m ≡ j) × (n ≡ x)). subst (λ (z : ℕ × ℕ). HasWord key.first r.log (cursor pl + z.0) z.1) (λ c. (sym t.0 c, t.1 c)) (cell_has s r id i j v at act word near e)) (adds n m x here);
              },
            );
            quit = λ h. not_both rd.active act (ok.quit h).0;
          },
          (refl, refl),
        )

    pub picks : (slots id i : ℕ) (me : Me S View) → me.0.reading.active ≡ true → i ≡ cell_word key (position me.0.reading) → position me.0.reading < next_number me.0
        → Allows (Law key) slots id me i (λ n. n) (picked (step slots i 0 0 none) me)
    picks slots id i me act word near = let none_more : position me.0.reading ≡ position me.0.reading + 0 = omega arith in
        picks_at slots id i 0 me (λ n. n ∷ []) act (word ∙ ap (λ (z : ℕ). cell_word key z) none_more) (omega arith) (λ n m x here. inr (only n m x here))
      where
        only : (n m x : ℕ) → get_elem? (n ∷ []) m ≡ some x → (m ≡ 0) × (n ≡ x)
        only n zero x e = (refl, some-injective n x e)
        only n (suc m) x e = absurd (some-ne-none x (sym e))

    pub picks_next : (slots id i : ℕ) (me : Me S View) → me.0.reading.active ≡ true → i ≡ cell_word key (next_to_pick me.0.reading) → next_to_pick me.0.reading < next_number me.0
        → Allows (Law key) slots id me i (λ n. n) (picked_more (step slots i 0 0 none) me)
    picks_next slots id i me act word near = picks_at slots id i (length me.0.reading.picked) me (λ n. me.0.reading.picked ++ n ∷ []) act word near (λ n m x here. at_end me.0.reading.picked n x m here)

    -- the other seats, at a step of the reader of the place p
    pub others_stay : (s : State S View) (r : Law key s) (p me : ℕ) (pl : Place) → (r.place p).holder ≡ me → ((k : Known) → KnownOk k (r.place p) → KnownOk k pl)
        → ((rd : Reading) → IsOver rd (r.place p) → IsOver rd pl) → (j : ℕ) (v : View) → j ≢ me → get_elem? s.views j ≡ some v → SeatOk key r.log r.flight (put r.place p pl) r.sequencer j v
    others_stay s r p me pl holds stays leaves j v other at = let ok = r.each_seat j v at in record {
      seen = ok.seen;
      told = ok.told;
      sequencing = sequencer_stays r.log r.flight r.place r.sequencer j p pl v stays ok.sequencing;
      reading = λ act. let o = ok.reading act in dite (ℕ_discrete v.reading.place p)
          (λ same. absurd (other (sym o.1.seat ∙ (ap (λ (z : ℕ). (r.place z).holder) same ∙ holds))))
          (λ ne. (o.0, subst (ReaderOk key r.log j v.reading) (sym (put_else r.place p pl v.reading.place ne)) o.1));
      quit = quit_stays key r.place p pl v.reading (leaves v.reading) ok.quit;
    }

    -- a load by the reader that finds its cursor
    finds : (slots id i : ℕ) (me : Me S View) (s : State S View) (r : Law key s) (w : View) → get_elem? s.views id ≡ some me.0 → me.0.reading.active ≡ true → (n : ℕ) → n ≡ cursor (r.place me.0.reading.place)
        → w.shape ≡ me.0.shape → w.seen ≡ me.0.seen → w.told ≡ me.0.told → w.sequencing ≡ me.0.sequencing → w.reading ≡ found_at n me.0.reading
        → SeatOk key r.log r.flight r.place r.sequencer id w
    finds slots id i me s r w at act n is a b c d e = let v : View = me.0 in let ok = r.each_seat id v at in let own = mine s r id v at act in record {
      seen = subst (λ front. IsPrefix front r.log) (sym b) ok.seen;
      told = subst (λ front. IsPrefix front r.log) (sym c) ok.told;
      sequencing = λ h. let o = ok.sequencing (ap (λ (q : Sequencing). q.active) (sym d) ∙ h) in (a ∙ o.0, b ∙ o.1, subst (SequencerOk key r.flight r.place r.sequencer id) (sym d) o.2);
      reading = λ h. (a ∙ own.0, subst (λ (x : Reading). ReaderOk key r.log id x (r.place x.place)) (sym e) (found_ok r.log id n v.reading (r.place v.reading.place) own.1 is));
      quit = λ h. not_both v.reading.active act (ok.quit (ap (λ (x : Reading). x.quit) (sym e) ∙ h)).0;
    }

    pub looks : (slots id i : ℕ) (me : Me S View) → me.0.reading.active ≡ true → i ≡ cursor_word me.0.reading.place → Allows (Law key) slots id me i (λ n. n) (looked (step slots i 0 0 none) me)
    looks slots id i me act word s r deep at small = let v : View = me.0 in let rd : Reading = v.reading in let n : ℕ = get_or s.words i 0 in let own = mine s r id v at act in let pl : Place = r.place rd.place in
        let reach = reaches r.log id rd pl own.1 in let is : n ≡ cursor pl = ap (λ (z : ℕ). get_or s.words z 0) word ∙ own.2.stands own.1.live in
        let w : View = record v { loads = v.loads ++ (i, n) ∷ []; reading = found_at n rd } in (
          w,
          keeps,
          tt,
          unmoved key s r i id w (finds slots id i me s r w at act n is refl refl refl refl refl),
          (refl, (refl, omega arith, λ no. is ∙ no_drop (length r.flight) (key.first + length r.log) (get_or s.words (cursor_word rd.place) 0) r.log id rd pl own.1 own.2 (ap (λ (k : Shape). k.drops) (sym own.0) ∙ no))),
        )

    -- the exchange found the cursor where it was to stand, and moves it by k, where as many were picked
    receives : (s : State S View) (r : Law key s) (id i k old new : ℕ) (me : Me S View) → get_elem? s.views id ≡ some me.0 → me.0.reading.active ≡ true → i ≡ cursor_word me.0.reading.place → old ≡ position me.0.reading → new ≡ old + k
        → old + k ≤ next_number me.0 → get_or s.words i 0 ≡ old
        → Law key (let w : View = record me.0 { reading = record me.0.reading { story = me.0.reading.story ++ replicate k true; picked = [] } } in let t : State S View = stepped s i new id me.1 w keeps in t)
    receives s r id i k old new me at act word from next near hit = let v : View = me.0 in let rd : Reading = v.reading in let own = mine s r id v at act in let pl : Place = r.place rd.place in let ok = r.each_seat id v at in
        let reach = reaches r.log id rd pl own.1 in let is : get_or s.words i 0 ≡ cursor pl = ap (λ (z : ℕ). get_or s.words z 0) word ∙ own.2.stands own.1.live in let more : List Bool = replicate k true in
        let shorter = prefix_length r.log v.seen ok.seen in let first : v.shape.first ≡ key.first = ap (λ (z : Shape). z.first) own.0 in let near' : old + k ≤ v.shape.first + length v.seen = near in
        let pl' : Place = record pl { story = pl.story ++ more } in let rd' : Reading = record rd { story = rd.story ++ more; picked = [] } in let w : View = record v { reading = rd' } in let none_lost' : own.1.story.0 ≡ 0 = omega arith in
        let longer : length pl'.story ≡ length pl.story + k = length-append pl.story more ∙ ap (λ (z : ℕ). length pl.story + z) (length-replicate k true) in
        let stays : (c : Known) → KnownOk c pl → KnownOk c pl' = λ c was. record {
          shut = was.shut;
          opening = was.opening;
          start = was.start;
          floor = λ o. let f = was.floor o in omega arith;
          lost = λ o. was.lost o ∙ sym (lost_none pl.start k pl.story);
          unread = was.unread;
        } in
        subst (λ (z : ℕ). Law key (let t : State S View = stepped s z new id me.1 w keeps in t)) (sym word)
        (place_step key s r rd.place new id pl' w own.1.inside
        record {
          shut = λ o. not_both pl.is_open own.1.live o;
          stands = λ _. (omega arith);
          after_first = own.2.after_first;
          behind = λ _. (omega arith);
          near = λ o. let h = own.2.near o in omega arith;
          unread = λ u. not_both pl.unread u own.1.handed;
          all_received = λ d. let a = own.2.all_received d in (a.0 + k, ap (λ (l : List Bool). l ++ more) a.1 ∙ replicate-append-replicate a.0 k true);
        }
        record {
          seen = ok.seen;
          told = ok.told;
          sequencing = sequencer_stays r.log r.flight r.place r.sequencer id rd.place pl' v stays ok.sequencing;
          reading = λ _. (
            own.0,
            subst (ReaderOk key r.log id rd') (sym (put_here r.place rd.place pl')) record {
              inside = own.1.inside;
              live = own.1.live;
              handed = own.1.handed;
              seat = own.1.seat;
              opening = own.1.opening;
              start = own.1.start;
              story = (0, ap (λ (l : List Bool). l ++ more) (own.1.story.1 ∙ (ap (λ (z : ℕ). rd.story ++ replicate z false) none_lost' ∙ append-nil rd.story)) ∙ sym (append-nil (rd.story ++ more)));
              picked = λ _ m x e. absurd (some-ne-none x (sym e));
            },
          );
          quit = λ h. not_both rd.active act (ok.quit h).0;
        }
        (others_stay s r rd.place id pl' own.1.seat stays (λ _ was. was)))

    -- what was picked are the accepted words, where the cursor stands there
    picked_words : (s : State S View) (r : Law key s) (id i old m x : ℕ) (v : View) → get_elem? s.views id ≡ some v → v.reading.active ≡ true → i ≡ cursor_word v.reading.place → old ≡ position v.reading → get_or s.words i 0 ≡ old
        → old + m < next_number v → get_elem? v.reading.picked m ≡ some x → HasWord v.shape.first v.seen (old + m) x
    picked_words s r id i old m x v at act word from hit near here = let rd : Reading = v.reading in let own = mine s r id v at act in let pl : Place = r.place rd.place in let ok = r.each_seat id v at in
        let is : old ≡ cursor pl = sym hit ∙ (ap (λ (z : ℕ). get_or s.words z 0) word ∙ own.2.stands own.1.live) in let has = own.1.picked (sym is ∙ from) m x here in
        let first : v.shape.first ≡ key.first = ap (λ (z : Shape). z.first) own.0 in let near' : old + m < v.shape.first + length v.seen = near in let index : cursor pl + m ≡ key.first + has.0 = has.2 in
        (has.0, has.1, ap (λ (z : ℕ). z + m) is ∙ (index ∙ ap (λ (z : ℕ). z + has.0) (sym first)), sym (prefix_at r.log v.seen has.0 ok.seen (omega arith)) ∙ has.3)

    -- the exchange found it elsewhere, and moves nothing
    misses : (s : State S View) (r : Law key s) (id i old : ℕ) (me : Me S View) → get_elem? s.views id ≡ some me.0 → me.0.reading.active ≡ true → i ≡ cursor_word me.0.reading.place → old ≡ position me.0.reading → get_or s.words i 0 ≢ old
        → Law key (let w : View = record me.0 { reading = found_at (get_or s.words i 0) me.0.reading } in let t : State S View = stepped s i (get_or s.words i 0) id me.1 w keeps in t)
        × (position me.0.reading < get_or s.words i 0) × (me.0.shape.drops ≡ true)
    misses s r id i old me at act word from miss = let v : View = me.0 in let rd : Reading = v.reading in let n : ℕ = get_or s.words i 0 in let own = mine s r id v at act in let pl : Place = r.place rd.place in
        let reach = reaches r.log id rd pl own.1 in let is : n ≡ cursor pl = ap (λ (z : ℕ). get_or s.words z 0) word ∙ own.2.stands own.1.live in let w : View = record v { reading = found_at n rd } in (
          unmoved key s r i id w (finds 0 id i me s r w at act n is refl refl refl refl refl),
          omega arith,
          ⊎_elim (λ t. t)
              (λ no. let same = no_drop (length r.flight) (key.first + length r.log) (get_or s.words (cursor_word rd.place) 0) r.log id rd pl own.1 own.2 (ap (λ (k : Shape). k.drops) (sym own.0) ∙ no) in absurd (omega arith)) (which v.shape.drops),
        )

    pub takes : (slots id i old new : ℕ) (me : Me S View) → me.0.reading.active ≡ true → i ≡ cursor_word me.0.reading.place → old ≡ position me.0.reading → new ≡ old + 1 → old < next_number me.0
        → me.0.reading.picked ≢ [] → Allows (Law key) slots id me i (λ n. either (eqb n old) new n) (took (step slots i old new none) me)
    takes slots id i old new me act word from next near some_picked s r deep at small = let v : View = me.0 in let rd : Reading = v.reading in let n : ℕ = get_or s.words i 0 in dite (ℕ_discrete n old)
        (λ hit. let w : View = record v { reading = got rd } in let one : old + 0 ≡ old = omega arith in let there = index_there rd.picked 0 0 (some_length rd.picked some_picked) in (
          w,
          keeps,
          tt,
          subst (λ (b : Bool). Law key (let t : State S View = stepped s i (either b new n) id me.1 w keeps in t)) (sym (eq-eqb n old hit)) (receives s r id i 1 old new me at act word from next (omega arith) hit),
          (
            refl,
            ((λ _. (refl, subst (λ (z : ℕ). HasWord v.shape.first v.seen z (get_or rd.picked 0 0)) one (picked_words s r id i old 0 (get_or rd.picked 0 0) v at act word from hit (omega arith) there))), λ miss. absurd (miss hit)),
          ),
        ))
        (λ miss. let m = misses s r id i old me at act word from miss in let w : View = record v { reading = found_at n rd } in (
          w,
          keeps,
          tt,
          subst (λ (b : Bool). Law key (let t : State S View = stepped s i (either b new n) id me.1 w keeps in t)) (sym (ne_eqb n old miss)) m.0,
          (refl, ((λ hit. absurd (miss hit)), λ _. (refl, m.1, m.2))),
        ))

    pub takes_picked : (slots id i old new : ℕ) (me : Me S View) → me.0.reading.active ≡ true → i ≡ cursor_word me.0.reading.place → old ≡ position me.0.reading → new ≡ old + length me.0.reading.picked → new ≤ next_number me.0
        → Allows (Law key) slots id me i (λ n. either (eqb n old) new n) (took_picked (step slots i old new none) me)
    takes_picked slots id i old new me act word from next near s r deep at small = let v : View = me.0 in let rd : Reading = v.reading in let n : ℕ = get_or s.words i 0 in dite (ℕ_discrete n old)
        (λ hit. let w : View = record v { reading = got_picked rd } in (
          w,
          keeps,
          tt,
          subst (λ (b : Bool). Law key (let t : State S View = stepped s i (either b new n) id me.1 w keeps in t)) (sym (eq-eqb n old hit)) (receives s r id i (length rd.picked) old new me at act word from next (omega arith) hit),
          (
            refl,
            ((λ _. (refl, λ m x here. let inside = within rd.picked m x here in picked_words s r id i old m x v at act word from hit (omega arith) here)), λ miss. absurd (miss hit)),
          ),
        ))
        (λ miss. let m = misses s r id i old me at act word from miss in let w : View = record v { reading = found_at n rd } in (
          w,
          keeps,
          tt,
          subst (λ (b : Bool). Law key (let t : State S View = stepped s i (either b new n) id me.1 w keeps in t)) (sym (ne_eqb n old miss)) m.0,
          (refl, ((λ hit. absurd (miss hit)), λ _. (refl, m.1, m.2))),
        ))

    pub quits : (slots id i : ℕ) (me : Me S View) → me.0.reading.active ≡ true → i ≡ cursor_word me.0.reading.place → Allows (Law key) slots id me i (λ _. closed) (λ _. quit (step slots i closed 0 none) me closed)
    quits slots id i me act word s r deep at small = let v : View = me.0 in let rd : Reading = v.reading in let own = mine s r id v at act in let pl : Place = r.place rd.place in let ok = r.each_seat id v at in
        let pl' : Place = record pl { is_open = false } in let w : View = record v { reading = ended rd } in
        let over : (z : Place) → z.opening ≡ rd.opening → IsOver rd (record z { is_open = false }) = λ z is. (omega arith, inl refl) in
        let stays : (k : Known) → KnownOk k pl → KnownOk k pl' = λ k was. record {
          shut = λ _. refl;
          opening = was.opening;
          start = was.start;
          floor = was.floor;
          lost = was.lost;
          unread = λ o u. let both = was.unread o u in not_both pl.unread both.0 own.1.handed;
        } in (
          w,
          keeps,
          tt,
          subst (λ (z : ℕ). Law key (let t : State S View = stepped s z closed id me.1 w keeps in t)) (sym word)
              (place_step key s r rd.place closed id pl' w own.1.inside
              record {
                shut = λ _. refl;
                stands = λ e. not_both false e refl;
                after_first = own.2.after_first;
                behind = λ e. not_both false e refl;
                near = λ e. not_both false e refl;
                unread = own.2.unread;
                all_received = own.2.all_received;
              }
              record {
                seen = ok.seen;
                told = ok.told;
                sequencing = sequencer_stays r.log r.flight r.place r.sequencer id rd.place pl' v stays ok.sequencing;
                reading = λ e. not_both false e refl;
                quit = λ _. (refl, own.1.inside, subst (IsOver rd) (sym (put_here r.place rd.place pl')) (over pl own.1.opening));
              }
              (others_stay s r rd.place id pl' own.1.seat stays (λ _ was. (was.0, inl refl)))),
          (refl, refl),
        )
