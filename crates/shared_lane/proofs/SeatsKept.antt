-- The law at making, where seats are split and joined, and where sequencer and reader meet.
use Rattle.std.proofs.Common.{◌≡◌, ◌≢◌, ◌⊎◌, ℕ, zero, suc, ◌+◌, ◌-◌, ◌*◌, ◌%◌, ◌<◌, ◌≤◌, eqb, cond, Bool, true, false, List, [], ◌∷◌, ◌++◌, length, replicate, take, drop, get_or, set, sym, refl, ap, ◌∙◌, subst, ⊎_elim, arith, length-append, eq-eqb, ne_eqb}
use mathlib.Core.Logic.{dite}
use mathlib.Core.Option.{some, none, some-ne-none, some-injective}
use native.Mathlib.Decide.{ℕ_discrete}
use lib.ListN.{get_elem?, length-replicate}
use Rattle.atomic_table.specs.Table.{State, Me, step, keeps, Allows, Splits, Joins, opening}
use Rattle.atomic_table.proofs.Lists.{at_set}
use Rattle.shared_lane.specs.declared.view.Shape.{Shape}
use Rattle.shared_lane.specs.declared.view.Known.{Known}
use Rattle.shared_lane.specs.declared.view.Sequencing.{Sequencing}
use Rattle.shared_lane.specs.declared.view.Reading.{Reading}
use Rattle.shared_lane.specs.declared.view.View.{View}
use Rattle.shared_lane.specs.Layout.{cursor_word, width}
use Rattle.flow_terms.specs.Lists.{IsPrefix}
use Rattle.shared_lane.specs.Law.{Entry, closed, Place, cursor, lost, PlaceOk, KnownOk, ReaderOk, IsOver, SeatOk, Law, shut_place, opening_view, no_sequencing}
use Rattle.shared_lane.specs.Steps.{known_over, next_number, known_of, with_known, found_at, handed_out, new_reader, receipt_of, without_reader, only_reader, telling, joined, end_note, hearing_end, spent, witness, met}
use Rattle.shared_lane.proofs.Lists.{which, not_both, front, index_there, at_end}
use Rattle.shared_lane.proofs.Frames.{put, put_here, put_else, quit_stays, reseated, seats_stay, unmoved}
use Rattle.shared_lane.proofs.ReaderKept.{reaches, whole_story, found_ok, no_drop, sequencer_stays}
use Rattle.shared_lane.proofs.SequencerKept.{learns}

module _ (key : Shape) where
  -- a seat that knows no more than some first entries
  witness_ok : (log flight : List Entry) (place : ℕ → Place) (sequencer j : ℕ) (shape : Shape) (some_entries : List Entry) → IsPrefix some_entries log
      → SeatOk key log flight place sequencer j (witness shape some_entries)
  witness_ok log flight place sequencer j shape l b = record { seen = b; told = (log, refl); sequencing = λ e. not_both false e refl; reading = λ e. not_both false e refl; quit = λ e. not_both false e refl }

  moved_reader : (log : List Entry) (place : ℕ → Place) (was now : ℕ) (rd : Reading) → ReaderOk key log was rd (place rd.place) → ReaderOk key log now rd (put place rd.place (record (place rd.place) { holder = now }) rd.place)
  moved_reader log place was now rd o = subst (ReaderOk key log now rd) (sym (put_here place rd.place (record (place rd.place) { holder = now })))
      record { inside = o.inside; live = o.live; handed = o.handed; seat = refl; opening = o.opening; start = o.start; story = o.story; picked = o.picked }

  known_stays : (k : Known) (pl : Place) (n : ℕ) → KnownOk k pl → KnownOk k (record pl { holder = n })
  known_stays k pl n o = record { shut = o.shut; opening = o.opening; start = o.start; floor = o.floor; lost = o.lost; unread = o.unread }

  -- what the sequencer knows of a place whose reader has ended
  over_is_known : (k : Known) (rd : Reading) (pl : Place) → KnownOk k pl → IsOver rd pl → KnownOk (known_over rd.opening k) pl
  over_is_known k rd pl knows over = dite (ℕ_discrete k.opening rd.opening)
      (λ same. let counted = knows.opening in let shut : pl.is_open ≡ false = ⊎_elim (λ c. c) (λ (again : rd.opening < pl.opening). absurd (omega arith)) over.1 in
      subst (λ (b : Bool). KnownOk (cond b (record k { is_open = false }) k) pl) (sym (eq-eqb k.opening rd.opening same)) record {
        shut = λ _. shut;
        opening = knows.opening;
        start = λ e. not_both false e refl;
        floor = λ e. not_both false e refl;
        lost = λ e. not_both false e refl;
        unread = λ e. not_both false e refl;
      })
      (λ other. subst (λ (b : Bool). KnownOk (cond b (record k { is_open = false }) k) pl) (sym (ne_eqb k.opening rd.opening other)) knows)

  module _ {S : Type 0} where
    -- no word changes, and a place keeps its cursor
    placed : (s : State S View) (r : Law key s) (p : ℕ) (pl : Place) (views : List View) → (r.place p).is_open ≡ pl.is_open → (r.place p).start ≡ pl.start → (r.place p).story ≡ pl.story → (pl.unread ≡ true → (r.place p).unread ≡ true)
        → ((j : ℕ) (v : View) → get_elem? views j ≡ some v → SeatOk key r.log r.flight (put r.place p pl) r.sequencer j v)
        → Law key record { words = s.words; homes = s.homes; views = views }
    placed s r p pl views a b c d seats = record {
      log = r.log;
      flight = r.flight;
      sequencer = r.sequencer;
      place = put r.place p pl;
      wide = r.wide;
      some_cell = r.some_cell;
      short = r.short;
      bounded = r.bounded;
      tail = r.tail;
      each_cell = r.each_cell;
      each_place = λ q l. let all = r.each_place q l in dite (ℕ_discrete q p)
          (λ e. let all' = subst (λ (z : ℕ). PlaceOk key (length r.flight) (key.first + length r.log) (r.place z) (get_or s.words (cursor_word q) 0)) e all in
          let same : cursor (r.place p) ≡ cursor pl = (λ i. b i + length (c i)) in
          subst (λ (z : Place). PlaceOk key (length r.flight) (key.first + length r.log) z (get_or s.words (cursor_word q) 0)) (sym (put_here r.place p pl) ∙ ap (put r.place p pl) (sym e)) record {
            shut = λ o. all'.shut (a ∙ o);
            stands = λ o. all'.stands (a ∙ o) ∙ same;
            after_first = subst (λ (z : ℕ). key.first ≤ z) b all'.after_first;
            behind = λ o. let h = all'.behind (a ∙ o) in omega arith;
            near = λ o. let h = all'.near (a ∙ o) in omega arith;
            unread = λ u. let h = all'.unread (d u) in (h.0, sym c ∙ h.1);
            all_received = λ u. let h = all'.all_received u in (h.0, sym c ∙ h.1);
          })
          (λ ne. subst (λ (z : Place). PlaceOk key (length r.flight) (key.first + length r.log) z (get_or s.words (cursor_word q) 0)) (sym (put_else r.place p pl q ne)) all);
      each_seat = seats;
    }

    -- a receipt is split off
    pub copies : (id n : ℕ) (v : View) → Splits {S = S} (Law key) id v v (receipt_of n v)
    copies id n v s r at = let ok = r.each_seat id v at in let O = SeatOk key r.log r.flight r.place r.sequencer in
        reseated key s r (set s.views id v ++ receipt_of n v ∷ []) (λ j u e. ⊎_elim (seats_stay O s.views id v ok (λ i x _. r.each_seat i x) j u)
        (λ (t : (j ≡ length (set s.views id v)) × (receipt_of n v ≡ u)). subst (O j) t.1 (witness_ok r.log r.flight r.place r.sequencer j v.shape (take n v.seen)
        (let b = ok.seen in (drop n v.seen ++ b.0, b.1 ∙ (ap (λ (l : List Entry). l ++ b.0) (front n v.seen) ∙ Rattle.std.proofs.Common.append_assoc (take n v.seen) (drop n v.seen) b.0)))))
        (at_end (set s.views id v) (receipt_of n v) u j e))

    pub copies_all : (id : ℕ) (v : View) → Splits {S = S} (Law key) id v v (witness v.shape v.seen)
    copies_all id v s r at = let ok = r.each_seat id v at in let O = SeatOk key r.log r.flight r.place r.sequencer in let w : View = witness v.shape v.seen in
        reseated key s r (set s.views id v ++ w ∷ []) (λ j u e. ⊎_elim (seats_stay O s.views id v ok (λ i x _. r.each_seat i x) j u)
        (λ (t : (j ≡ length (set s.views id v)) × (w ≡ u)). subst (O j) t.1 (witness_ok r.log r.flight r.place r.sequencer j v.shape v.seen ok.seen)) (at_end (set s.views id v) w u j e))

    -- a seat takes in what another has seen
    pub tells : (id other : ℕ) (v w : View) → Joins {S = S} (Law key) id v other w (telling v w) spent
    tells id other v w s r at apart there = let ok = r.each_seat id v at in let O = SeatOk key r.log r.flight r.place r.sequencer in
        let theirs = ⊎_elim (λ (t : (other ≡ id) × (telling v w ≡ w)). absurd (apart t.0)) (λ (t : (other ≢ id) × (get_elem? s.views other ≡ some w)). r.each_seat other w t.1) (at_set s.views id other (telling v w) w there) in
        reseated key s r (set (set s.views id (telling v w)) other spent)
        (seats_stay O (set s.views id (telling v w)) other spent (witness_ok r.log r.flight r.place r.sequencer other spent.shape [] (r.log, refl))
        (λ j u _ e. seats_stay O s.views id (telling v w) record { seen = ok.seen; told = theirs.seen; sequencing = ok.sequencing; reading = ok.reading; quit = ok.quit } (λ i x _. r.each_seat i x) j u e))

    -- the end of a reader is split off
    pub copies_end : (id : ℕ) (v : View) → v.reading.quit ≡ true → Splits {S = S} (Law key) id v v (end_note v)
    copies_end id v gone s r at = let ok = r.each_seat id v at in let O = SeatOk key r.log r.flight r.place r.sequencer in let w : View = end_note v in
        let mine : (j : ℕ) → O j w = λ j. record { seen = (r.log, refl); told = (r.log, refl); sequencing = λ e. not_both false e refl; reading = λ a. not_both v.reading.active a (ok.quit gone).0; quit = ok.quit } in
        reseated key s r (set s.views id v ++ w ∷ []) (λ j u e. ⊎_elim (seats_stay O s.views id v ok (λ i x _. r.each_seat i x) j u)
        (λ (t : (j ≡ length (set s.views id v)) × (w ≡ u)). subst (O j) t.1 (mine j)) (at_end (set s.views id v) w u j e))

    -- the sequencer hears of the end of a reader
    pub hears_end : (id other : ℕ) (v w : View) → v.sequencing.active ≡ true → w.reading.quit ≡ true → Joins {S = S} (Law key) id v other w (hearing_end v w) spent
    hears_end id other v w act gone s r at apart there = let ok = r.each_seat id v at in let O = SeatOk key r.log r.flight r.place r.sequencer in let q : Sequencing = v.sequencing in let rd : Reading = w.reading in
        let theirs = ⊎_elim (λ (t : (other ≡ id) × (hearing_end v w ≡ w)). absurd (apart t.0)) (λ (t : (other ≢ id) × (get_elem? s.views other ≡ some w)). r.each_seat other w t.1) (at_set s.views id other (hearing_end v w) w there) in
        let end = theirs.quit gone in let own = ok.sequencing act in let k : Known = known_of q rd.place in let count = own.2.count in let inside = end.1 in
        let there_k = index_there q.places rd.place shut_place (omega arith) in let knows = own.2.knows rd.place k there_k in
        let mine : O id (hearing_end v w) = record {
          seen = ok.seen;
          told = ok.told;
          sequencing = λ _. (own.0, own.1, learns key r.flight r.place r.place r.sequencer id rd.place (known_over rd.opening k) q own.2 (over_is_known k rd (r.place rd.place) knows end.2) (λ _ _. refl));
          reading = ok.reading;
          quit = ok.quit;
        } in
        reseated key s r (set (set s.views id (hearing_end v w)) other spent)
        (seats_stay O (set s.views id (hearing_end v w)) other spent (witness_ok r.log r.flight r.place r.sequencer other spent.shape [] (r.log, refl))
        (λ j u _ e. seats_stay O s.views id (hearing_end v w) mine (λ i x _. r.each_seat i x) j u e))

    -- the reader of the place p gets a seat of its own
    pub hands_out : (id p : ℕ) (v : View) → v.sequencing.active ≡ true → p < key.places → (known_of v.sequencing p).is_open ≡ true → (known_of v.sequencing p).unread ≡ true → Splits {S = S} (Law key) id v (handed_out p v) (new_reader p v)
    hands_out id p v act inside is_open unread s r at = let ok = r.each_seat id v at in let own = ok.sequencing act in let q : Sequencing = v.sequencing in let k : Known = known_of q p in let count = own.2.count in
        let there_k = index_there q.places p shut_place (omega arith) in let knows = own.2.knows p k there_k in let pl : Place = r.place p in let was = knows.unread is_open unread in let all = r.each_place p inside in
        let left : View = handed_out p v in let right : View = new_reader p v in let n : ℕ = length (set s.views id left) in let pl' : Place = record pl { unread = false; holder = n } in let k' : Known = record k { unread = false } in
        let O = SeatOk key r.log r.flight (put r.place p pl') r.sequencer in
        let knows' : KnownOk k' (put r.place p pl' p) = subst (KnownOk k') (sym (put_here r.place p pl')) record { shut = knows.shut; opening = knows.opening; start = knows.start; floor = knows.floor; lost = knows.lost; unread = λ _ e. not_both false e refl } in
        let others : (j : ℕ) (rd : Reading) → ReaderOk key r.log j rd (r.place rd.place) → ReaderOk key r.log j rd (put r.place p pl' rd.place) = λ j rd o. dite (ℕ_discrete rd.place p)
        (λ e. not_both (r.place rd.place).unread (ap (λ (z : ℕ). (r.place z).unread) e ∙ was.0) o.handed)
        (λ ne. subst (ReaderOk key r.log j rd) (sym (put_else r.place p pl' rd.place ne)) o) in
        let mine : O id left = record {
          seen = ok.seen;
          told = ok.told;
          sequencing = λ _. (own.0, own.1, learns key r.flight r.place (put r.place p pl') r.sequencer id p k' q own.2 knows' (λ x ne. put_else r.place p pl' x ne));
          reading = λ a. let o = ok.reading a in (o.0, others id v.reading o.1);
          quit = quit_stays key r.place p pl' v.reading (λ was. was) ok.quit;
        } in
        let theirs : O n right = record {
          seen = ok.seen;
          told = (r.log, refl);
          sequencing = λ e. not_both false e refl;
          reading = λ _. (
            own.0,
            subst (ReaderOk key r.log n right.reading) (sym (put_here r.place p pl')) record {
              inside = inside;
              live = was.1;
              handed = refl;
              seat = refl;
              opening = sym knows.opening;
              start = sym (knows.start is_open);
              story = all.unread was.0;
              picked = λ _ i x e. absurd (some-ne-none x (sym e));
            },
          );
          quit = λ e. not_both false e refl;
        } in
        placed s r p pl' (set s.views id left ++ right ∷ []) refl refl refl (λ e. not_both false e refl)
        (λ j u e. ⊎_elim (seats_stay O s.views id left mine
        (λ i x other here. let o = r.each_seat i x here in record {
          seen = o.seen;
          told = o.told;
          sequencing = λ a. absurd (other ((o.sequencing a).2.seat ∙ sym own.2.seat));
          reading = λ a. let y = o.reading a in (y.0, others i x.reading y.1);
          quit = quit_stays key r.place p pl' x.reading (λ was. was) o.quit;
        }) j u)
        (λ (t : (j ≡ n) × (right ≡ u)). subst (λ (z : ℕ × View). O z.0 z.1) (λ i. (sym t.0 i, t.1 i)) theirs) (at_end (set s.views id left) right u j e))

    -- the other readers, where the reader of the place p changes its seat
    elsewhere : (s : State S View) (r : Law key s) (p was : ℕ) (pl' : Place) → (r.place p).holder ≡ was → (j : ℕ) → j ≢ was → (rd : Reading) → ReaderOk key r.log j rd (r.place rd.place) → ReaderOk key r.log j rd (put r.place p pl' rd.place)
    elsewhere s r p was pl' holds j other rd o = dite (ℕ_discrete rd.place p)
        (λ e. absurd (other (sym o.seat ∙ (ap (λ (z : ℕ). (r.place z).holder) e ∙ holds))))
        (λ ne. subst (ReaderOk key r.log j rd) (sym (put_else r.place p pl' rd.place ne)) o)

    -- the reader's part gets a seat of its own
    pub parts : (id : ℕ) (v : View) → v.reading.active ≡ true → Splits {S = S} (Law key) id v (without_reader v) (only_reader v)
    parts id v act s r at = let ok = r.each_seat id v at in let own = ok.reading act in let rd : Reading = v.reading in let p : ℕ = rd.place in let left : View = without_reader v in let right : View = only_reader v in
        let n : ℕ = length (set s.views id left) in let pl' : Place = record (r.place p) { holder = n } in let O = SeatOk key r.log r.flight (put r.place p pl') r.sequencer in
        let stays : (k : Known) → KnownOk k (r.place p) → KnownOk k pl' = λ k o. known_stays k (r.place p) n o in
        placed s r p pl' (set s.views id left ++ right ∷ []) refl refl refl (λ u. u)
        (λ j u e. ⊎_elim (seats_stay O s.views id left
        record { seen = ok.seen; told = ok.told; sequencing = sequencer_stays key r.log r.flight r.place r.sequencer id p pl' v stays ok.sequencing; reading = λ a. not_both false a refl; quit = λ e. not_both false e refl }
        (λ i x other here. let o = r.each_seat i x here in record {
          seen = o.seen;
          told = o.told;
          sequencing = sequencer_stays key r.log r.flight r.place r.sequencer i p pl' x stays o.sequencing;
          reading = λ a. let y = o.reading a in (y.0, elsewhere s r p id pl' own.1.seat i other x.reading y.1);
          quit = quit_stays key r.place p pl' x.reading (λ was. was) o.quit;
        }) j u)
        (λ (t : (j ≡ n) × (right ≡ u)). subst (λ (z : ℕ × View). O z.0 z.1) (λ i. (sym t.0 i, t.1 i))
        record { seen = ok.seen; told = ok.told; sequencing = λ a. not_both false a refl; reading = λ _. (own.0, moved_reader r.log r.place id n rd own.1); quit = λ h. not_both rd.active act (ok.quit h).0 }) (at_end (set s.views id left) right u j e))

    -- a seat takes in the reader's part of another
    pub joins : (id other : ℕ) (v w : View) → w.reading.active ≡ true → v.sequencing.active ≡ true → Joins {S = S} (Law key) id v other w (joined v w) spent
    joins id other v w act leads s r at apart there = let ok = r.each_seat id v at in let here = ⊎_elim (λ (t : (other ≡ id) × (joined v w ≡ w)). absurd (apart t.0)) (λ (t : (other ≢ id) × (get_elem? s.views other ≡ some w)). t.1) (at_set s.views id other (joined v w) w there) in
        let theirs = r.each_seat other w here in let own = theirs.reading act in let rd : Reading = w.reading in let p : ℕ = rd.place in let pl' : Place = record (r.place p) { holder = id } in
        let O = SeatOk key r.log r.flight (put r.place p pl') r.sequencer in let stays : (k : Known) → KnownOk k (r.place p) → KnownOk k pl' = λ k o. known_stays k (r.place p) id o in
        placed s r p pl' (set (set s.views id (joined v w)) other spent) refl refl refl (λ u. u)
        (λ j u e. ⊎_elim
        (λ (t : (j ≡ other) × (spent ≡ u)). subst (O j) t.1 (witness_ok r.log r.flight (put r.place p pl') r.sequencer j spent.shape [] (r.log, refl)))
        (λ (t : (j ≢ other) × (get_elem? (set s.views id (joined v w)) j ≡ some u)). seats_stay (λ i x. i ≢ other → O i x) s.views id (joined v w)
        (λ _. record {
          seen = ok.seen;
          told = theirs.seen;
          sequencing = sequencer_stays key r.log r.flight r.place r.sequencer id p pl' v stays ok.sequencing;
          reading = λ _. ((ok.sequencing leads).0, moved_reader r.log r.place other id rd own.1);
          quit = λ h. not_both rd.active act (theirs.quit h).0;
        })
        (λ i x not_id h not_other. let o = r.each_seat i x h in record {
          seen = o.seen;
          told = o.told;
          sequencing = sequencer_stays key r.log r.flight r.place r.sequencer i p pl' x stays o.sequencing;
          reading = λ a. let y = o.reading a in (y.0, elsewhere s r p other pl' own.1.seat i not_other x.reading y.1);
          quit = quit_stays key r.place p pl' x.reading (λ was. was) o.quit;
        }) j u t.1 t.0)
        (at_set (set s.views id (joined v w)) other j spent u e))

    -- the sequencer and a reader have met in one seat, which loads the reader's cursor
    pub meets : (slots id i : ℕ) (me : Me S View) → me.0.sequencing.active ≡ true → me.0.reading.active ≡ true → i ≡ cursor_word me.0.reading.place → Allows (Law key) slots id me i (λ n. n) (met (step slots i 0 0 none) me)
    meets slots id i me act reads word s r deep at small = let v : View = me.0 in let q : Sequencing = v.sequencing in let rd : Reading = v.reading in let p : ℕ = rd.place in let n : ℕ = get_or s.words i 0 in let ok = r.each_seat id v at in
        let own = ok.sequencing act in let mine = ok.reading reads in let all = r.each_place p mine.1.inside in let pl : Place = r.place p in let k : Known = known_of q p in let count = own.2.count in let inside = mine.1.inside in
        let there_k = index_there q.places p shut_place (omega arith) in let knows = own.2.knows p k there_k in let live = mine.1.live in let known : k.is_open ≡ true = ⊎_elim (λ o. o) (λ c. not_both pl.is_open live (knows.shut c)) (which k.is_open) in
        let is : n ≡ cursor pl = ap (λ (z : ℕ). get_or s.words z 0) word ∙ all.stands live in let k' : Known = record k { floor = n } in let reach = reaches key r.log id rd pl mine.1 in let behind = all.behind live in
        let now = found_ok key r.log id n rd pl mine.1 is in let w : View = record v { told = []; loads = v.loads ++ (i, n) ∷ []; reading = found_at n rd; sequencing = with_known p k' q } in
        let same : next_number v ≡ key.first + length r.log = (λ c. (own.0 c).first + length (own.1 c)) in
        let story : pl.story ≡ (found_at n rd).story = whole_story key r.log id n rd pl mine.1 is in let start : pl.start ≡ rd.start = mine.1.start in
        let long : length pl.story ≡ length (found_at n rd).story = ap length story in (
          w,
          keeps,
          tt,
          unmoved key s r i id w record {
            seen = ok.seen;
            told = (r.log, refl);
            sequencing = λ _. (own.0, own.1, learns key r.flight r.place r.place r.sequencer id p k' q own.2 record { shut = knows.shut; opening = knows.opening; start = knows.start; floor = λ _. omega arith; lost = knows.lost; unread = knows.unread } (λ _ _. refl));
            reading = λ _. (mine.0, now);
            quit = λ h. not_both rd.active reads (ok.quit h).0;
          },
          (
            refl,
            (
              refl,
              subst (λ (l : List Entry). IsPrefix v.told l) (sym own.1) ok.told,
              knows.lost known ∙ (λ c. lost (start c) (story c)),
              omega arith,
              omega arith,
              omega arith,
              λ no. is ∙ no_drop key (length r.flight) (key.first + length r.log) (get_or s.words (cursor_word p) 0) r.log id rd pl mine.1 all (ap (λ (k : Shape). k.drops) (sym own.0) ∙ no),
            ),
          ),
        )

    -- a lane as it is made: nothing was accepted
    begins_with : (words : List ℕ) (place : ℕ → Place) (known : Known) → 0 < key.cells → key.first ≤ 4611686018427387904 → length words ≡ width key → get_or words 0 0 ≡ key.first
        → ((p : ℕ) → p < key.places → PlaceOk key 0 key.first (place p) (get_or words (cursor_word p) 0)) → ((p : ℕ) → KnownOk known (place p))
        → Law key (let t : State S View = opening words [] (record (opening_view key) { sequencing = record no_sequencing { active = true; places = replicate key.places known } }) in t)
    begins_with words place known some_cell low wide first places knows = let v : View = record (opening_view key) { sequencing = record no_sequencing { active = true; places = replicate key.places known } } in record {
      log = [];
      flight = [];
      sequencer = 0;
      place = place;
      wide = wide;
      some_cell = some_cell;
      short = omega arith;
      bounded = omega arith;
      tail = first ∙ omega arith;
      each_cell = λ i e x at. absurd (some-ne-none (e, x) (sym at));
      each_place = λ p l. subst (λ (z : ℕ). PlaceOk key 0 z (place p) (get_or words (cursor_word p) 0)) (let e : key.first ≡ key.first + 0 = omega arith in e) (places p l);
      each_seat = one v record {
        seen = ([], refl);
        told = ([], refl);
        sequencing = λ _. (refl, refl, record { seat = refl; in_flight = refl; count = length-replicate key.places known; knows = λ p k e. subst (λ (z : Known). KnownOk z (place p)) (all_same key.places p known k e) (knows p) });
        reading = λ e. not_both false e refl;
        quit = λ e. not_both false e refl;
      };
    }
      where
        all_same : (n p : ℕ) (a b : Known) → get_elem? (replicate n a) p ≡ some b → a ≡ b
        all_same zero p a b e = absurd (some-ne-none b (sym e))
        all_same (suc n) zero a b e = some-injective a b e
        all_same (suc n) (suc p) a b e = all_same n p a b e

        one : (v : View) → SeatOk key [] [] place 0 0 v → (j : ℕ) (u : View) → get_elem? (v ∷ []) j ≡ some u → SeatOk key [] [] place 0 j u
        one v ok zero u e = subst (SeatOk key [] [] place 0 0) (some-injective v u e) ok
        one v ok (suc j) u e = absurd (some-ne-none u (sym e))

    -- each place is closed
    pub starts_shut : (words : List ℕ) → 0 < key.cells → key.first ≤ 4611686018427387904 → length words ≡ width key → get_or words 0 0 ≡ key.first → ((p : ℕ) → p < key.places → get_or words (cursor_word p) 0 ≡ closed)
        → Law key (let t : State S View = opening words [] (opening_view key) in t)
    starts_shut words some_cell low wide first shut = let pl : Place = record { is_open = false; unread = false; holder = 0; opening = 0; start = key.first; story = [] } in begins_with words (λ _. pl) shut_place some_cell low wide first
        (λ p l. record {
          shut = λ _. shut p l;
          stands = λ e. not_both false e refl;
          after_first = omega arith;
          behind = λ e. not_both false e refl;
          near = λ e. not_both false e refl;
          unread = λ e. not_both false e refl;
          all_received = λ _. (0, refl);
        })
        (λ p. record { shut = λ _. refl; opening = refl; start = λ e. not_both false e refl; floor = λ e. not_both false e refl; lost = λ e. not_both false e refl; unread = λ e. not_both false e refl })
