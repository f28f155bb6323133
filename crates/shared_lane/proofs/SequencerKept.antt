-- The sequencer's steps keep the law.
use Rattle.std.proofs.Common.{◌≡◌, ◌≢◌, ◌⊎◌, inl, inr, ℕ, suc, ◌+◌, ◌%◌, ◌<◌, ◌≤◌, eqb, cond, Bool, true, false, List, [], ◌∷◌, ◌++◌, length, replicate, take, drop, get_or, set, sym, refl, ap, ◌∙◌, subst, ⊎_elim, arith, length-append, length-set, append_assoc, eq-eqb, ne_eqb, lt_of_not-le, get_or-set_other, get_or-set_same}
use mathlib.Core.Logic.{dite}
use mathlib.Core.Option.{some, none}
use native.Mathlib.Decide.{dec_le, ℕ_discrete}
use lib.ListN.{get_elem?}
use prog.Atomic.{either}
use Rattle.std.proofs.lemmas.List.{append-nil}
use Rattle.atomic_table.specs.Table.{State, Me, step, keeps, stepped, Allows}
use Rattle.atomic_table.proofs.Lists.{at_set, at_longer, one_turn}
use Rattle.shared_lane.specs.declared.view.Shape.{Shape}
use Rattle.shared_lane.specs.declared.view.Known.{Known}
use Rattle.shared_lane.specs.declared.view.Sequencing.{Sequencing}
use Rattle.shared_lane.specs.declared.view.Reading.{Reading}
use Rattle.shared_lane.specs.declared.view.View.{View}
use Rattle.shared_lane.specs.Layout.{cursor_word, cell_word}
use Rattle.flow_terms.specs.Lists.{IsPrefix}
use Rattle.shared_lane.specs.Law.{Entry, closed, Place, cursor, lost, PlaceOk, KnownOk, SequencerOk, ReaderOk, IsOver, SeatOk, Law, shut_place}
use Rattle.shared_lane.specs.Steps.{next_number, next_to_store, known_of, known_at, known_past, known_from, with_known, Standing, surveyed, filled, filled_next, accepted, accepted_all, dropped, opened}
use Rattle.shared_lane.proofs.Apart.{cursor_is_no_tail, cursors_differ, cell_is_no_tail, cell_is_no_cursor, cells_differ, tail_within, cell_within}
use Rattle.shared_lane.proofs.Lists.{which, not_both, within, index_there, at_end, at_first, first_length, first_longer, one_taken, front, prefix_self, one_more, lost_one}
use Rattle.shared_lane.proofs.ReaderKept.{reaches}
use Rattle.shared_lane.proofs.Frames.{put, put_here, put_else, quit_stays, seats_stay, prefix_more, unmoved, place_step}

module _ (key : Shape) where
  -- the sequencer knows k of the place p, which may have changed, and of the others what it did
  pub learns : (flight : List Entry) (place place' : ℕ → Place) (sequencer j p : ℕ) (k : Known) (q : Sequencing) → SequencerOk key flight place sequencer j q → KnownOk k (place' p)
      → ((x : ℕ) → x ≢ p → place' x ≡ place x) → SequencerOk key flight place' sequencer j (with_known p k q)
  learns flight place place' sequencer j p k q ok now same = record {
    seat = ok.seat;
    in_flight = ok.in_flight;
    count = length-set q.places p k ∙ ok.count;
    knows = λ x c e. ⊎_elim (λ (t : (x ≡ p) × (k ≡ c)). subst (λ (z : ℕ × Known). KnownOk z.1 (place' z.0)) (λ i. (sym t.0 i, t.1 i)) now)
        (λ (t : (x ≢ p) × (get_elem? q.places x ≡ some c)). subst (KnownOk c) (sym (same x t.0)) (ok.knows x c t.1)) (at_set q.places p x k c e);
  }

  -- what the sequencer knows after it found the cursor at n
  found : (ahead tail n : ℕ) (k : Known) (pl : Place) → tail ≤ 4611686018427387904 → PlaceOk key ahead tail pl n → KnownOk k pl
      → KnownOk (known_at n k) pl × (n ≢ closed → (k.is_open ≡ true) × (k.floor ≤ n) × (n ≡ cursor pl) × (pl.is_open ≡ true))
  found ahead tail n k pl small ok knows = dite (ℕ_discrete n closed)
      (λ shut. let closed_place : pl.is_open ≡ false = ⊎_elim (λ o. let a = ok.stands o in let b = ok.behind o in absurd (omega arith)) (λ c. c) (which pl.is_open) in (
        subst (λ (b : Bool). KnownOk (cond b (record k { is_open = false }) (record k { floor = n })) pl) (sym (eq-eqb n closed shut))
            record { shut = λ _. closed_place; opening = knows.opening; start = λ e. not_both false e refl; floor = λ e. not_both false e refl; lost = λ e. not_both false e refl; unread = λ e. not_both false e refl },
        λ other. absurd (other shut),
      ))
      (λ other. let live : pl.is_open ≡ true = ⊎_elim (λ o. o) (λ c. absurd (other (ok.shut c))) (which pl.is_open) in
      let known : k.is_open ≡ true = ⊎_elim (λ o. o) (λ c. not_both pl.is_open live (knows.shut c)) (which k.is_open) in let stands = ok.stands live in let floor = knows.floor known in (
        subst (λ (b : Bool). KnownOk (cond b (record k { is_open = false }) (record k { floor = n })) pl) (sym (ne_eqb n closed other))
            record { shut = knows.shut; opening = knows.opening; start = knows.start; floor = λ _. omega arith; lost = knows.lost; unread = knows.unread },
        λ _. (known, omega arith, stands, live),
      ))

  -- a reader whose place lost its next value
  after_loss : (log : List Entry) (j : ℕ) (r : Reading) (pl : Place) → ReaderOk key log j r pl → ReaderOk key log j r (record pl { story = pl.story ++ false ∷ [] })
  after_loss log j r pl ok = let longer : length (pl.story ++ false ∷ []) ≡ length pl.story + 1 = length-append pl.story (false ∷ []) in record {
    inside = ok.inside;
    live = ok.live;
    handed = ok.handed;
    seat = ok.seat;
    opening = ok.opening;
    start = ok.start;
    story = (suc ok.story.0, ap (λ (l : List Bool). l ++ false ∷ []) ok.story.1 ∙ (append_assoc r.story (replicate ok.story.0 false) (false ∷ []) ∙ ap (λ (l : List Bool). r.story ++ l) (one_more ok.story.0 false)));
    picked = λ e. let reach = reaches key log j r pl ok in absurd (omega arith);
  }

  -- two of the last numbers lie in one cell only if they are the same
  apart : (n m last : ℕ) → (key.first + n) % key.cells ≡ (key.first + m) % key.cells → n < last → m < last → last ≤ n + key.cells → last ≤ m + key.cells → n ≡ m
  apart n m last turn n_in m_in n_near m_near = dite (dec_le n m)
      (λ le. let one = one_turn (key.first + n) (key.first + m) key.cells (omega arith) (omega arith) turn in omega arith)
      (λ not_le. let lt : m < n = lt_of_not-le not_le in let one = one_turn (key.first + m) (key.first + n) key.cells (omega arith) (omega arith) (sym turn) in omega arith)

  module _ {S : Type 0} where
    surveys_here : (slots id p : ℕ) (me : Me S View) → me.0.sequencing.active ≡ true → p < key.places → Allows (Law key) slots id me (cursor_word p) (λ n. n) (surveyed (step slots (cursor_word p) 0 0 none) me)
    surveys_here slots id p me act inside s r deep at small = let v : View = me.0 in let q : Sequencing = v.sequencing in let n : ℕ = get_or s.words (cursor_word p) 0 in let ok = r.each_seat id v at in let own = ok.sequencing act in
        let k : Known = known_of q p in let count = own.2.count in let there_k = index_there q.places p shut_place (omega arith) in let all = r.each_place p inside in let pl : Place = r.place p in
        let tail : ℕ = key.first + length r.log in let f = found (length r.flight) tail n k pl r.bounded all (own.2.knows p k there_k) in
        let w : View = record v { told = []; loads = v.loads ++ (cursor_word p, n) ∷ []; sequencing = with_known p (known_at n k) q } in
        let same : next_number v ≡ tail = (λ i. (own.0 i).first + length (own.1 i)) in (
          w,
          keeps,
          tt,
          unmoved key s r (cursor_word p) id w record {
            seen = ok.seen;
            told = (r.log, refl);
            sequencing = λ _. (own.0, own.1, learns r.flight r.place r.place r.sequencer id p (known_at n k) q own.2 f.0 (λ _ _. refl));
            reading = ok.reading;
            quit = ok.quit;
          },
          (
            refl,
            λ p' e. let is : p ≡ p' = cursors_differ p p' e in (
              ap (λ (z : ℕ). let u : View = record v { told = []; loads = v.loads ++ (cursor_word z, n) ∷ []; sequencing = with_known z (known_at n (known_of q z)) q } in u) is,
              subst (λ (l : List Entry). IsPrefix v.told l) (sym own.1) ok.told,
              subst (λ (z : ℕ). Standing v z n) is (λ other. let g = f.1 other in let b = all.behind g.3 in let c = all.near g.3 in let cells : v.shape.cells ≡ key.cells = ap (λ (z : Shape). z.cells) own.0 in (g.0, g.1, omega arith, omega arith)),
            ),
          ),
        )

    -- the law, where (e, x) was stored at the index j of those in flight, which are now `after`
    stored : (s : State S View) (r : Law key s) (id i j e x : ℕ) (me : Me S View) (after : List Entry) → get_elem? s.views id ≡ some me.0 → me.0.sequencing.active ≡ true → i ≡ cell_word key (key.first + length r.log + j)
        → j < length after → length r.flight ≤ length after → length after ≤ key.cells
        → ((n : ℕ) (b : Entry) → get_elem? (r.log ++ after) n ≡ some b → ((n ≡ length r.log + j) × ((e, x) ≡ b)) ⊎ ((n ≢ length r.log + j) × (get_elem? (r.log ++ r.flight) n ≡ some b)))
        → ((p : ℕ) → p < key.places → (r.place p).is_open ≡ true → key.first + length r.log + length after ≤ cursor (r.place p) + key.cells)
        → Law key (let w : View = record me.0 { sequencing = record me.0.sequencing { flight = after } } in let t : State S View = stepped s i x id me.1 w keeps in t)
    stored s r id i j e x me after at act cell inside more few writes room = let v : View = me.0 in let q : Sequencing = v.sequencing in let ok = r.each_seat id v at in let own = ok.sequencing act in let tail : ℕ = key.first + length r.log in
        let w : View = record v { sequencing = record q { flight = after } } in let wide = r.wide in let in_ring = cell_within key (tail + j) r.some_cell in let both = length-append r.log after in record {
          log = r.log;
          flight = after;
          sequencer = r.sequencer;
          place = r.place;
          wide = length-set s.words i x ∙ r.wide;
          some_cell = r.some_cell;
          short = few;
          bounded = r.bounded;
          tail = get_or-set_other s.words i 0 x 0 (λ h. cell_is_no_tail key (tail + j) (h ∙ cell)) ∙ r.tail;
          each_cell = λ n f y here near. let last = within (r.log ++ after) n (f, y) here in ⊎_elim
              (λ (t : (n ≡ length r.log + j) × ((e, x) ≡ (f, y))). let is : key.first + n ≡ tail + j = omega arith in
              ap (λ (z : ℕ). get_or (set s.words i x) z 0) (ap (λ (z : ℕ). cell_word key z) is ∙ sym cell) ∙ (get_or-set_same s.words i x 0 (omega arith) ∙ ap (λ (z : Entry). z.1) t.1))
              (λ (t : (n ≢ length r.log + j) × (get_elem? (r.log ++ r.flight) n ≡ some (f, y))). get_or-set_other s.words i (cell_word key (key.first + n)) x 0
              (λ h. t.0 (apart n (length r.log + j) (length r.log + length after)
              (cells_differ key (key.first + n) (tail + j) (h ∙ cell) ∙ ap (λ (z : ℕ). z % key.cells) (let e : tail + j ≡ key.first + (length r.log + j) = omega arith in e)) (omega arith) (omega arith) near (omega arith)))
              ∙ r.each_cell n f y t.1 (omega arith)) (writes n (f, y) here);
          each_place = λ p l. let all = r.each_place p l in let pl : Place = r.place p in
              subst (PlaceOk key (length after) tail pl) (sym (get_or-set_other s.words i (cursor_word p) x 0 (λ h. cell_is_no_cursor key p (tail + j) l (sym cell ∙ sym h)))) record {
                shut = all.shut;
                stands = all.stands;
                after_first = all.after_first;
                behind = all.behind;
                near = room p l;
                unread = all.unread;
                all_received = all.all_received;
              };
          each_seat = seats_stay (SeatOk key r.log after r.place r.sequencer) s.views id w
              record { seen = ok.seen; told = ok.told; sequencing = λ _. (own.0, own.1, record { seat = own.2.seat; in_flight = refl; count = own.2.count; knows = own.2.knows }); reading = ok.reading; quit = ok.quit }
              (λ k u other here. let o = r.each_seat k u here in record { seen = o.seen; told = o.told; sequencing = λ a. absurd (other ((o.sequencing a).2.seat ∙ sym own.2.seat)); reading = o.reading; quit = o.quit });
        }

    -- an open cursor is near enough, where what the sequencer knows of its place says so
    roomy : (s : State S View) (r : Law key s) (id p n : ℕ) (v : View) → get_elem? s.views id ≡ some v → v.sequencing.active ≡ true → p < key.places → (r.place p).is_open ≡ true
        → ((p : ℕ) (k : Known) → get_elem? v.sequencing.places p ≡ some k → k.is_open ≡ true → n < k.floor + key.cells) → n < cursor (r.place p) + key.cells
    roomy s r id p n v at act inside live room = let own = (r.each_seat id v at).sequencing act in let q : Sequencing = v.sequencing in let k : Known = known_of q p in let count = own.2.count in let pl : Place = r.place p in
        let there_k = index_there q.places p shut_place (omega arith) in let knows = own.2.knows p k there_k in
        let known : k.is_open ≡ true = ⊎_elim (λ a. a) (λ c. not_both pl.is_open live (knows.shut c)) (which k.is_open) in let floor = knows.floor known in let free = room p k there_k known in omega arith

    pub fills : (slots id i e x : ℕ) (me : Me S View) → me.0.sequencing.active ≡ true → i ≡ cell_word key (next_number me.0)
        → ((p : ℕ) (k : Known) → get_elem? me.0.sequencing.places p ≡ some k → k.is_open ≡ true → next_number me.0 < k.floor + key.cells)
        → Allows (Law key) slots id me i (λ _. x) (λ _. filled e (step slots i x 0 none) me x)
    fills slots id i e x me act word room s r deep at small = let v : View = me.0 in let q : Sequencing = v.sequencing in let own = (r.each_seat id v at).sequencing act in let tail : ℕ = key.first + length r.log in
        let same : next_number v ≡ tail = (λ c. (own.0 c).first + length (own.1 c)) in let here : next_number v ≡ tail + 0 = omega arith in let after : List Entry = (e, x) ∷ drop 1 q.flight in let pos = r.some_cell in
        let length_is = ap length own.2.in_flight in let longer = first_longer q.flight (e, x) in let short = r.short in let w : View = record v { sequencing = record q { flight = after } } in (
          w,
          keeps,
          tt,
          stored s r id i 0 e x me after at act (word ∙ ap (λ (z : ℕ). cell_word key z) here) (omega arith) (omega arith)
              (⊎_elim (λ (one : length after ≡ 1). omega arith) (λ (old : length after ≡ length q.flight). omega arith) (first_length q.flight (e, x)))
              (λ n b is. let none_more : length r.log ≡ length r.log + 0 = omega arith in subst (λ (z : ℕ × List Entry). ((n ≡ z.0) × ((e, x) ≡ b)) ⊎ ((n ≢ z.0) × (get_elem? (r.log ++ z.1) n ≡ some b))) (λ c. (none_more c, own.2.in_flight c)) (at_first r.log q.flight (e, x) b n is))
              (λ p l live. let free = roomy s r id p (next_number v) v at act l live room in let near = (r.each_place p l).near live in
              ⊎_elim (λ (one : length after ≡ 1). omega arith) (λ (old : length after ≡ length q.flight). omega arith) (first_length q.flight (e, x))),
          (refl, refl),
        )

    pub fills_next : (slots id i e x : ℕ) (me : Me S View) → me.0.sequencing.active ≡ true → i ≡ cell_word key (next_to_store me.0) → length me.0.sequencing.flight < key.cells
        → ((p : ℕ) (k : Known) → get_elem? me.0.sequencing.places p ≡ some k → k.is_open ≡ true → next_to_store me.0 < k.floor + key.cells)
        → Allows (Law key) slots id me i (λ _. x) (λ _. filled_next e (step slots i x 0 none) me x)
    fills_next slots id i e x me act word short room s r deep at small = let v : View = me.0 in let q : Sequencing = v.sequencing in let own = (r.each_seat id v at).sequencing act in let tail : ℕ = key.first + length r.log in
        let same : next_number v ≡ tail = (λ c. (own.0 c).first + length (own.1 c)) in let here : next_to_store v ≡ tail + length q.flight = ap (λ (z : ℕ). z + length q.flight) same in let after : List Entry = q.flight ++ (e, x) ∷ [] in
        let length_is = ap length own.2.in_flight in let longer : length after ≡ length q.flight + 1 = length-append q.flight ((e, x) ∷ []) in let w : View = record v { sequencing = record q { flight = after } } in (
          w,
          keeps,
          tt,
          stored s r id i (length q.flight) e x me after at act (word ∙ ap (λ (z : ℕ). cell_word key z) here) (omega arith) (omega arith) (omega arith)
              (λ n b is. last r.log q.flight r.flight own.2.in_flight (e, x) b n is)
              (λ p l live. let free = roomy s r id p (next_to_store v) v at act l live room in omega arith),
          (refl, refl),
        )
      where
        last : (l f g : List Entry) → f ≡ g → (a b : Entry) (n : ℕ) → get_elem? (l ++ (f ++ a ∷ [])) n ≡ some b → ((n ≡ length l + length f) × (a ≡ b)) ⊎ ((n ≢ length l + length f) × (get_elem? (l ++ g) n ≡ some b))
        last l f g same a b n is = let both = length-append l f in
            ⊎_elim (λ (old : get_elem? (l ++ f) n ≡ some b). let inside = within (l ++ f) n b old in inr ((λ h. omega arith), subst (λ (z : List Entry). get_elem? (l ++ z) n ≡ some b) same old))
            (λ (t : (n ≡ length (l ++ f)) × (a ≡ b)). inl (t.0 ∙ both, t.1)) (at_end (l ++ f) a b n (subst (λ (z : List Entry). get_elem? z n ≡ some b) (sym (append_assoc l f (a ∷ []))) is))

    -- the tail is stored past `now`, a front of those in flight
    accepts_front : (s : State S View) (r : Law key s) (id new : ℕ) (me : Me S View) (now later : List Entry) → get_elem? s.views id ≡ some me.0 → me.0.sequencing.active ≡ true → me.0.sequencing.flight ≡ now ++ later
        → new ≡ next_number me.0 + length now → new ≤ 4611686018427387904
        → Law key (let w : View = record me.0 { seen = me.0.seen ++ now; sequencing = record me.0.sequencing { flight = later } } in let t : State S View = stepped s 0 new id me.1 w keeps in t)
    accepts_front s r id new me now later at act split next low = let v : View = me.0 in let q : Sequencing = v.sequencing in let ok = r.each_seat id v at in let own = ok.sequencing act in let tail : ℕ = key.first + length r.log in
        let same : next_number v ≡ tail = (λ c. (own.0 c).first + length (own.1 c)) in let w : View = record v { seen = v.seen ++ now; sequencing = record q { flight = later } } in let log' : List Entry = r.log ++ now in
        let longer : length log' ≡ length r.log + length now = length-append r.log now in let parts : length r.flight ≡ length now + length later = ap length (sym own.2.in_flight ∙ split) ∙ length-append now later in
        let whole : log' ++ later ≡ r.log ++ r.flight = append_assoc r.log now later ∙ ap (λ (l : List Entry). r.log ++ l) (sym split ∙ own.2.in_flight) in
        let grows : (j : ℕ) (rd : Reading) (pl : Place) → ReaderOk key r.log j rd pl → ReaderOk key log' j rd pl = λ j rd pl o. record {
          inside = o.inside;
          live = o.live;
          handed = o.handed;
          seat = o.seat;
          opening = o.opening;
          start = o.start;
          story = o.story;
          picked = λ e m x here. let has = o.picked e m x here in (has.0, has.1, has.2, at_longer r.log now has.0 (has.1, x) has.3);
        } in let wide = r.wide in let in_table = tail_within key in let few = r.short in record {
          log = log';
          flight = later;
          sequencer = r.sequencer;
          place = r.place;
          wide = length-set s.words 0 new ∙ r.wide;
          some_cell = r.some_cell;
          short = omega arith;
          bounded = omega arith;
          tail = get_or-set_same s.words 0 new 0 (omega arith) ∙ omega arith;
          each_cell = λ j f y here near. let cell : ℕ = cell_word key (key.first + j) in get_or-set_other s.words 0 cell new 0 (λ h. cell_is_no_tail key (key.first + j) (sym h)) ∙
              r.each_cell j f y (subst (λ (l : List Entry). get_elem? l j ≡ some (f, y)) whole here) (omega arith);
          each_place = λ p l. let all = r.each_place p l in let pl : Place = r.place p in
              subst (PlaceOk key (length later) (key.first + length log') pl) (sym (get_or-set_other s.words 0 (cursor_word p) new 0 (λ h. cursor_is_no_tail p (sym h)))) record {
                shut = all.shut;
                stands = all.stands;
                after_first = all.after_first;
                behind = λ o. let b = all.behind o in omega arith;
                near = λ o. let c = all.near o in omega arith;
                unread = all.unread;
                all_received = all.all_received;
              };
          each_seat = seats_stay (SeatOk key log' later r.place r.sequencer) s.views id w
              record {
                seen = subst (λ (z : List Entry). IsPrefix z log') (λ c. sym own.1 c ++ now) (prefix_self log');
                told = prefix_more r.log v.told now ok.told;
                sequencing = λ _. (own.0, (λ c. own.1 c ++ now), record { seat = own.2.seat; in_flight = refl; count = own.2.count; knows = own.2.knows });
                reading = λ a. let o = ok.reading a in (o.0, grows id v.reading (r.place v.reading.place) o.1);
                quit = ok.quit;
              }
              (λ j u other here. let o = r.each_seat j u here in record {
                seen = prefix_more r.log u.seen now o.seen;
                told = prefix_more r.log u.told now o.told;
                sequencing = λ a. absurd (other ((o.sequencing a).2.seat ∙ sym own.2.seat));
                reading = λ a. let x = o.reading a in (x.0, grows j u.reading (r.place u.reading.place) x.1);
                quit = o.quit;
              });
        }

    pub accepts : (slots id new : ℕ) (me : Me S View) → me.0.sequencing.active ≡ true → me.0.sequencing.flight ≢ [] → new ≡ next_number me.0 + 1 → new ≤ 4611686018427387904
        → Allows (Law key) slots id me 0 (λ _. new) (λ _. accepted (step slots 0 new 0 none) me new)
    accepts slots id new me act some_flight next low s r deep at small = let v : View = me.0 in let q : Sequencing = v.sequencing in let one = one_taken q.flight some_flight in
        let w : View = record v { seen = v.seen ++ take 1 q.flight; sequencing = record q { flight = drop 1 q.flight } } in
        (w, keeps, tt, accepts_front s r id new me (take 1 q.flight) (drop 1 q.flight) at act (front 1 q.flight) (omega arith) low, (refl, refl))

    pub accepts_all : (slots id new : ℕ) (me : Me S View) → me.0.sequencing.active ≡ true → new ≡ next_to_store me.0 → new ≤ 4611686018427387904
        → Allows (Law key) slots id me 0 (λ _. new) (λ _. accepted_all (step slots 0 new 0 none) me new)
    accepts_all slots id new me act next low s r deep at small = let v : View = me.0 in let q : Sequencing = v.sequencing in let w : View = record v { seen = v.seen ++ q.flight; sequencing = record q { flight = [] } } in
        (w, keeps, tt, accepts_front s r id new me q.flight [] at act (sym (append-nil q.flight)) next low, (refl, refl))

    drops_here : (slots id p old new : ℕ) (me : Me S View) → me.0.sequencing.active ≡ true → p < key.places → key.drops ≡ true → new ≡ old + 1 → old + key.cells ≡ next_number me.0
        → Allows (Law key) slots id me (cursor_word p) (λ n. either (eqb n old) new n) (dropped (step slots (cursor_word p) old new none) me)
    drops_here slots id p old new me act inside dropping next full s r deep at small = let v : View = me.0 in let q : Sequencing = v.sequencing in let n : ℕ = get_or s.words (cursor_word p) 0 in let ok = r.each_seat id v at in let own = ok.sequencing act in
        let k : Known = known_of q p in let count = own.2.count in let there_k = index_there q.places p shut_place (omega arith) in let all = r.each_place p inside in let pl : Place = r.place p in
        let tail : ℕ = key.first + length r.log in let knows = own.2.knows p k there_k in let f = found (length r.flight) tail n k pl r.bounded all knows in let low = r.bounded in let pos = r.some_cell in
        let same : next_number v ≡ tail = (λ i. (own.0 i).first + length (own.1 i)) in
        dite (ℕ_discrete n old)
        (λ hit. let not_closed : n ≢ closed = λ e. omega arith in let g = f.1 not_closed in let live = g.3 in let stands = g.2 in let pl' : Place = record pl { story = pl.story ++ false ∷ [] } in
        let longer : length pl'.story ≡ length pl.story + 1 = length-append pl.story (false ∷ []) in let k' : Known = known_past n k in let w : View = record v { sequencing = with_known p k' q } in let near = all.near live in
        let knows' : KnownOk k' (put r.place p pl' p) = subst (KnownOk k') (sym (put_here r.place p pl')) record {
          shut = knows.shut;
          opening = knows.opening;
          start = knows.start;
          floor = λ _. omega arith;
          lost = λ o. ap (λ (l : List ℕ). l ++ n ∷ []) (knows.lost o) ∙ (ap (λ (z : ℕ). lost pl.start pl.story ++ z ∷ []) stands ∙ sym (lost_one pl.start pl.story));
          unread = knows.unread;
        } in
        let others : (j : ℕ) (rd : Reading) → ReaderOk key r.log j rd (r.place rd.place) → ReaderOk key r.log j rd (put r.place p pl' rd.place) = λ j rd o. dite (ℕ_discrete rd.place p)
        (λ e. subst (ReaderOk key r.log j rd) (sym (put_here r.place p pl') ∙ ap (put r.place p pl') (sym e)) (after_loss r.log j rd pl (subst (λ (z : ℕ). ReaderOk key r.log j rd (r.place z)) e o)))
        (λ ne. subst (ReaderOk key r.log j rd) (sym (put_else r.place p pl' rd.place ne)) o) in (
          w,
          keeps,
          tt,
          subst (λ (b : Bool). Law key (let t : State S View = stepped s (cursor_word p) (either b new n) id me.1 w keeps in t)) (sym (eq-eqb n old hit))
              (place_step key s r p new id pl' w inside
              record {
                shut = λ o. not_both pl.is_open live o;
                stands = λ _. (omega arith);
                after_first = all.after_first;
                behind = λ _. (omega arith);
                near = λ _. (omega arith);
                unread = λ u. let a = all.unread u in (suc a.0, ap (λ (l : List Bool). l ++ false ∷ []) a.1 ∙ one_more a.0 false);
                all_received = λ d. not_both key.drops dropping d;
              }
              record {
                seen = ok.seen;
                told = ok.told;
                sequencing = λ _. (own.0, own.1, learns r.flight r.place (put r.place p pl') r.sequencer id p k' q own.2 knows' (λ x ne. put_else r.place p pl' x ne));
                reading = λ a. let o = ok.reading a in (o.0, others id v.reading o.1);
                quit = quit_stays key r.place p pl' v.reading (λ was. was) ok.quit;
              }
              (λ j u other here. let o = r.each_seat j u here in record {
                seen = o.seen;
                told = o.told;
                sequencing = λ a. absurd (other ((o.sequencing a).2.seat ∙ sym own.2.seat));
                reading = λ a. let x = o.reading a in (x.0, others j u.reading x.1);
                quit = quit_stays key r.place p pl' u.reading (λ was. was) o.quit;
              })),
          (
            refl,
            λ p' e. let is : p ≡ p' = cursors_differ p p' e in (
              (λ _. (ap (λ (z : ℕ). let u : View = record v { sequencing = with_known z (known_past n (known_of q z)) q } in u) is, ap (λ (z : ℕ). (known_of q z).is_open) (sym is) ∙ g.0)),
              λ miss. absurd (miss hit),
            ),
          ),
        ))
        (λ miss. let w : View = record v { sequencing = with_known p (known_at n k) q } in (
          w,
          keeps,
          tt,
          subst (λ (b : Bool). Law key (let t : State S View = stepped s (cursor_word p) (either b new n) id me.1 w keeps in t)) (sym (ne_eqb n old miss)) (unmoved key s r (cursor_word p) id w record {
            seen = ok.seen;
            told = ok.told;
            sequencing = λ _. (own.0, own.1, learns r.flight r.place r.place r.sequencer id p (known_at n k) q own.2 f.0 (λ _ _. refl));
            reading = ok.reading;
            quit = ok.quit;
          }),
          (
            refl,
            λ p' e. let is : p ≡ p' = cursors_differ p p' e in (
              (λ hit. absurd (miss hit)),
              λ _. (
                ap (λ (z : ℕ). let u : View = record v { sequencing = with_known z (known_at n (known_of q z)) q } in u) is,
                subst (λ (z : ℕ). Standing v z n) is (λ other. let g = f.1 other in let b = all.behind g.3 in let c = all.near g.3 in let cells : v.shape.cells ≡ key.cells = ap (λ (z : Shape). z.cells) own.0 in (g.0, g.1, omega arith, omega arith)),
              ),
            ),
          ),
        ))

    -- no reader has a place that is closed
    none_reads : (s : State S View) (r : Law key s) (p : ℕ) (pl' : Place) → (r.place p).is_open ≡ false → (j : ℕ) (rd : Reading) → ReaderOk key r.log j rd (r.place rd.place) → ReaderOk key r.log j rd (put r.place p pl' rd.place)
    none_reads s r p pl' shut j rd o = dite (ℕ_discrete rd.place p) (λ e. not_both (r.place rd.place).is_open o.live (ap (λ (z : ℕ). (r.place z).is_open) e ∙ shut))
        (λ ne. subst (ReaderOk key r.log j rd) (sym (put_else r.place p pl' rd.place ne)) o)

    opens_here : (slots id p start opening : ℕ) (me : Me S View) → me.0.sequencing.active ≡ true → p < key.places → (known_of me.0.sequencing p).is_open ≡ false → (known_of me.0.sequencing p).opening < opening → me.0.sequencing.flight ≡ [] → key.first ≤ start → start ≤ next_number me.0
        → next_number me.0 ≤ start + key.cells → Allows (Law key) slots id me (cursor_word p) (λ _. start) (λ _. opened opening (step slots (cursor_word p) start 0 none) me start)
    opens_here slots id p start opening me act inside shut later grounded from_first below near s r deep at small = let v : View = me.0 in let q : Sequencing = v.sequencing in let ok = r.each_seat id v at in let own = ok.sequencing act in
        let k : Known = known_of q p in let count = own.2.count in let there_k = index_there q.places p shut_place (omega arith) in let tail : ℕ = key.first + length r.log in let knows = own.2.knows p k there_k in
        let closed_place = knows.shut shut in let same : next_number v ≡ tail = (λ i. (own.0 i).first + length (own.1 i)) in let pl' : Place = record { is_open = true; unread = true; holder = id; opening = opening; start = start; story = [] } in
        let none_ahead : length r.flight ≡ 0 = ap length (sym own.2.in_flight ∙ grounded) in
        let opened_again : (rd : Reading) → IsOver rd (r.place p) → IsOver rd pl' = λ rd was. let at_most = was.0 in let counted = knows.opening in (omega arith, inr (omega arith)) in
        let k' : Known = known_from start opening in let w : View = record v { sequencing = with_known p k' q } in
        let knows' : KnownOk k' (put r.place p pl' p) = subst (KnownOk k') (sym (put_here r.place p pl')) record { shut = λ e. not_both true refl e; opening = refl; start = λ _. refl; floor = λ _. omega arith; lost = λ _. refl; unread = λ _ _. (refl, refl) } in (
          w,
          keeps,
          tt,
          place_step key s r p start id pl' w inside
              record {
                shut = λ e. not_both true refl e;
                stands = λ _. omega arith;
                after_first = from_first;
                behind = λ _. omega arith;
                near = λ _. omega arith;
                unread = λ _. (0, refl);
                all_received = λ _. (0, refl);
              }
              record {
                seen = ok.seen;
                told = ok.told;
                sequencing = λ _. (own.0, own.1, learns r.flight r.place (put r.place p pl') r.sequencer id p k' q own.2 knows' (λ x ne. put_else r.place p pl' x ne));
                reading = λ a. let o = ok.reading a in (o.0, none_reads s r p pl' closed_place id v.reading o.1);
                quit = quit_stays key r.place p pl' v.reading (opened_again v.reading) ok.quit;
              }
              (λ j u other here. let o = r.each_seat j u here in record {
                seen = o.seen;
                told = o.told;
                sequencing = λ a. absurd (other ((o.sequencing a).2.seat ∙ sym own.2.seat));
                reading = λ a. let x = o.reading a in (x.0, none_reads s r p pl' closed_place j u.reading x.1);
                quit = quit_stays key r.place p pl' u.reading (opened_again u.reading) o.quit;
              }),
          (refl, λ p' e. let is : p ≡ p' = cursors_differ p p' e in ap (λ (z : ℕ). let u : View = record v { sequencing = with_known z (known_from start opening) q } in u) is),
        )

    -- the same where the index is known by an equation
    pub surveys : (slots id i p : ℕ) (me : Me S View) → i ≡ cursor_word p → me.0.sequencing.active ≡ true → p < key.places → Allows (Law key) slots id me i (λ n. n) (surveyed (step slots i 0 0 none) me)
    surveys slots id i p me is act inside = subst (λ (z : ℕ). Allows (Law key) slots id me z (λ n. n) (surveyed (step slots z 0 0 none) me)) (sym is) (surveys_here slots id p me act inside)

    pub drops : (slots id i p old new : ℕ) (me : Me S View) → i ≡ cursor_word p → me.0.sequencing.active ≡ true → p < key.places → key.drops ≡ true → new ≡ old + 1 → old + key.cells ≡ next_number me.0
        → Allows (Law key) slots id me i (λ n. either (eqb n old) new n) (dropped (step slots i old new none) me)
    drops slots id i p old new me is act inside dropping next full =
        subst (λ (z : ℕ). Allows (Law key) slots id me z (λ n. either (eqb n old) new n) (dropped (step slots z old new none) me)) (sym is) (drops_here slots id p old new me act inside dropping next full)

    pub opens : (slots id i p start opening : ℕ) (me : Me S View) → i ≡ cursor_word p → me.0.sequencing.active ≡ true → p < key.places → (known_of me.0.sequencing p).is_open ≡ false → (known_of me.0.sequencing p).opening < opening → me.0.sequencing.flight ≡ [] → key.first ≤ start
        → start ≤ next_number me.0 → next_number me.0 ≤ start + key.cells → Allows (Law key) slots id me i (λ _. start) (λ _. opened opening (step slots i start 0 none) me start)
    opens slots id i p start opening me is act inside shut later grounded from_first below near =
        subst (λ (z : ℕ). Allows (Law key) slots id me z (λ _. start) (λ _. opened opening (step slots z start 0 none) me start)) (sym is) (opens_here slots id p start opening me act inside shut later grounded from_first below near)
