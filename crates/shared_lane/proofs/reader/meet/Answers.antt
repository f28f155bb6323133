use Rattle.std.proofs.Common.{arith, ◌≡◌, ℕ, ◌-◌, ◌<◌, ◌≤◌, List, ◌++◌, length, replicate, false, sym, ap, ◌∙◌, subst}
use Rattle.shared_lane.specs.declared.view.View.{View}
use Rattle.shared_lane.specs.declared.view.Reading.{Reading}
use Rattle.shared_lane.specs.declared.view.Shape.{Shape}
use Rattle.shared_lane.specs.Layout.{cell_index}
use Rattle.flow_terms.specs.Lists.{IsPrefix}
use Rattle.shared_lane.specs.Law.{Entry, received, lost}
use Rattle.shared_lane.specs.Steps.{position, found_at, next_number}
use Rattle.shared_lane.specs.Views.{LaneSeen, ReaderSeen, SequencerSeen}
use Rattle.shared_lane.proofs.Stories.{position_found, received_none, each_once}
use Rattle.shared_lane.proofs.reader.meet.Goals as goal

pub index_from-reader-inside-requires : goal.index_from-reader-inside-requires
index_from-reader-inside-requires g c = let s = c.reader.inside in let of_lane = ap (λ (z : ReaderSeen). z.shape) c.reader.view_is ∙ (c.requires.1.1 ∙ sym (ap (λ (z : LaneSeen). z.shape) c.words-words.ensures)) in
    c.reader.invariant.cell_is ∙ ap (λ (z : Shape). cell_index z s.at) of_lane

pub invariant_of-reader : goal.invariant_of-reader
invariant_of-reader g c = let s = c.reader.inside in let inv = c.reader.invariant in let r : Reading = s.seat.me.0.reading in let n : ℕ = c.meet_cursor-at.result in let part = ap (λ m. m.0.reading) c.split_reading-part.ensures.reader.1 in
    let join = ap (λ (v : View). v.reading) c.join_reading.ensures.1 ∙ part in let met = c.meet_cursor-at.ensures.view in let le : position r ≤ n = subst (λ (z : Reading). position z ≤ n) join met.4 in
    let e : c.split_reading.result.me.0.reading ≡ found_at n r = ap (λ m. m.0.reading) c.split_reading.ensures.reader.1 ∙ (ap (λ (v : View). v.reading) met.0 ∙ ap (found_at n) join) in
    let shape : c.split_reading.result.me.0.shape ≡ s.seat.me.0.shape = ap (λ m. m.0.shape) c.split_reading.ensures.reader.1 ∙ (ap (λ (v : View). v.shape) met.0 ∙ (ap (λ (v : View). v.shape) c.join_reading.ensures.1 ∙ (ap (λ (q : SequencerSeen). q.view.shape) c.sequencer.view_is ∙ c.requires.0.1 ∙ sym c.requires.1.1 ∙ sym (ap (λ (z : ReaderSeen). z.shape) c.reader.view_is)))) in
    let of_lane : s.seat.me.0.shape ≡ c.words-words.result.now.shape = ap (λ (z : ReaderSeen). z.shape) c.reader.view_is ∙ (c.requires.1.1 ∙ sym (ap (λ (z : LaneSeen). z.shape) c.words-words.ensures)) in record {
      active = ap (λ (x : Reading). x.active) e ∙ inv.active;
      holds_no_slot = ap (λ m. m.1) c.split_reading.ensures.reader.1;
      place_is = ap (λ (x : Reading). x.place) e ∙ inv.place_is;
      inside = subst (λ (z : Shape). s.place < z.places) (sym shape) inv.inside;
      start_is = ap (λ (x : Reading). x.start) e ∙ inv.start_is;
      at_is = sym (ap position e ∙ position_found n r le);
      cell_is = c.index_from-reader-inside.ensures ∙ ap (λ (z : Shape). cell_index z n) (sym (shape ∙ of_lane));
      taken_is = inv.taken_is ∙ sym (ap (λ (x : Reading). length (received s.start x.story)) e ∙ received_none s.start (n - position r) r.story);
    }

pub overflow_sub-result-3 : goal.overflow_sub-result-3
overflow_sub-result-3 g c = let s = c.reader.inside in let inv = c.reader.invariant in let r : Reading = s.seat.me.0.reading in let n : ℕ = c.meet_cursor-at.result in let part = ap (λ m. m.0.reading) c.split_reading-part.ensures.reader.1 in
    let join = ap (λ (v : View). v.reading) c.join_reading.ensures.1 ∙ part in let le : position r ≤ n = subst (λ (z : Reading). position z ≤ n) join c.meet_cursor-at.ensures.view.4 in
    let once = each_once s.start r.story in let start = inv.start_is in let at = inv.at_is in let taken = inv.taken_is in omega arith

pub returns-clause-accepted : goal.returns-clause-accepted
returns-clause-accepted g c = let s = c.reader.inside in let inv = c.reader.invariant in let r : Reading = s.seat.me.0.reading in let n : ℕ = c.meet_cursor-at.result in let part = ap (λ m. m.0.reading) c.split_reading-part.ensures.reader.1 in
    let join = ap (λ (v : View). v.reading) c.join_reading.ensures.1 ∙ part in let met = c.meet_cursor-at.ensures.view in let le : position r ≤ n = subst (λ (z : Reading). position z ≤ n) join met.4 in
    let e : c.split_reading.result.me.0.reading ≡ found_at n r = ap (λ m. m.0.reading) c.split_reading.ensures.reader.1 ∙ (ap (λ (v : View). v.reading) met.0 ∙ ap (found_at n) join) in
    let start = inv.start_is in let at = inv.at_is in let tail = c.sequencer.invariant.tail_is in
    let got : s.taken ≡ length (received s.start c.split_reading.result.me.0.reading.story) = inv.taken_is ∙ sym (ap (λ (x : Reading). length (received s.start x.story)) e ∙ received_none s.start (n - position r) r.story) in
    let once = each_once s.start c.split_reading.result.me.0.reading.story in let there : position c.split_reading.result.me.0.reading ≡ n = ap position e ∙ position_found n r le in
    let from : c.split_reading.result.me.0.reading.start ≡ s.start = ap (λ (x : Reading). x.start) e ∙ inv.start_is in
    let same : next_number c.split_reading.new.seat.me.0 ≡ next_number c.sequencer.inside.seat.me.0 = ap next_number c.split_reading.ensures.seat.1 ∙ (ap next_number met.0 ∙ ap next_number c.join_reading.ensures.1) in
    let below : n ≤ next_number c.join_reading.new.seat.me.0 = met.5 in let same' : next_number c.join_reading.new.seat.me.0 ≡ next_number c.sequencer.inside.seat.me.0 = ap next_number c.join_reading.ensures.1 in
    let long = each_once s.start r.story in omega arith

pub returns-clause-counts : goal.returns-clause-counts
returns-clause-counts g c = let s = c.reader.inside in let inv = c.reader.invariant in let r : Reading = s.seat.me.0.reading in let n : ℕ = c.meet_cursor-at.result in let part = ap (λ m. m.0.reading) c.split_reading-part.ensures.reader.1 in
    let join = ap (λ (v : View). v.reading) c.join_reading.ensures.1 ∙ part in let met = c.meet_cursor-at.ensures.view in let le : position r ≤ n = subst (λ (z : Reading). position z ≤ n) join met.4 in
    let e : c.split_reading.result.me.0.reading ≡ found_at n r = ap (λ m. m.0.reading) c.split_reading.ensures.reader.1 ∙ (ap (λ (v : View). v.reading) met.0 ∙ ap (found_at n) join) in
    let start = inv.start_is in let at = inv.at_is in let tail = c.sequencer.invariant.tail_is in
    let got : s.taken ≡ length (received s.start c.split_reading.result.me.0.reading.story) = inv.taken_is ∙ sym (ap (λ (x : Reading). length (received s.start x.story)) e ∙ received_none s.start (n - position r) r.story) in
    let once = each_once s.start c.split_reading.result.me.0.reading.story in let there : position c.split_reading.result.me.0.reading ≡ n = ap position e ∙ position_found n r le in
    let from : c.split_reading.result.me.0.reading.start ≡ s.start = ap (λ (x : Reading). x.start) e ∙ inv.start_is in
    let same : next_number c.split_reading.new.seat.me.0 ≡ next_number c.sequencer.inside.seat.me.0 = ap next_number c.split_reading.ensures.seat.1 ∙ (ap next_number met.0 ∙ ap next_number c.join_reading.ensures.1) in
    let below : n ≤ next_number c.join_reading.new.seat.me.0 = met.5 in let same' : next_number c.join_reading.new.seat.me.0 ≡ next_number c.sequencer.inside.seat.me.0 = ap next_number c.join_reading.ensures.1 in
    let here = ap (λ (z : ℕ). length (received z c.split_reading.result.me.0.reading.story)) (sym from) in
    let lost_here = ap (λ (z : ℕ). length (lost z c.split_reading.result.me.0.reading.story)) (sym from) in let long = each_once s.start r.story in (got ∙ here, omega arith)

pub returns-clause-reader : goal.returns-clause-reader
returns-clause-reader g c = rw (← c.reader.view_is) (let s = c.reader.inside in let r : Reading = s.seat.me.0.reading in let n : ℕ = c.meet_cursor-at.result in let part = ap (λ m. m.0.reading) c.split_reading-part.ensures.reader.1 in
    let join = ap (λ (v : View). v.reading) c.join_reading.ensures.1 ∙ part in let met = c.meet_cursor-at.ensures.view in let le : position r ≤ n = subst (λ (z : Reading). position z ≤ n) join met.4 in
    let e : c.split_reading.result.me.0.reading ≡ found_at n r = ap (λ m. m.0.reading) c.split_reading.ensures.reader.1 ∙ (ap (λ (v : View). v.reading) met.0 ∙ ap (found_at n) join) in
    let old_shape : s.seat.me.0.shape ≡ c.args.lane.now.shape = ap (λ (z : ReaderSeen). z.shape) c.reader.view_is ∙ c.requires.1.1 in
    let own_shape : c.join_reading.new.seat.me.0.shape ≡ c.args.lane.now.shape = ap (λ (v : View). v.shape) c.join_reading.ensures.1 ∙ (ap (λ (q : SequencerSeen). q.view.shape) c.sequencer.view_is ∙ c.requires.0.1) in
    let shape : c.split_reading.result.me.0.shape ≡ c.args.lane.now.shape = ap (λ m. m.0.shape) c.split_reading.ensures.reader.1 ∙ (ap (λ (v : View). v.shape) met.0 ∙ own_shape) in
    let table = c.split_reading.ensures.reader.0 ∙ ap (λ (z : LaneSeen). z.table) c.words-words.ensures in
    let seen : c.split_reading.result.me.0.seen ≡ c.join_reading.new.seat.me.0.seen = ap (λ m. m.0.seen) c.split_reading.ensures.reader.1 ∙ ap (λ (v : View). v.seen) met.0 in
    let told : c.join_reading.new.seat.me.0.told ≡ s.seat.me.0.seen = ap (λ (v : View). v.told) c.join_reading.ensures.1 ∙ ap (λ m. m.0.seen) c.split_reading-part.ensures.reader.1 in
    let there : position c.split_reading.result.me.0.reading ≡ n = ap position e ∙ position_found n r le in (
      (table, shape),
      (
        ap (λ (x : Reading). x.start) e,
        ap (λ (x : Reading). x.place) e,
        shape ∙ sym old_shape,
        subst (λ (z : List Entry × List Entry). IsPrefix z.1 z.0) (λ i. (sym seen i, told i)) met.1,
        table ∙ sym (ap (λ (z : ReaderSeen). z.table) c.reader.view_is ∙ c.requires.1.0),
        ap (λ (x : Reading). x.opening) e,
      ),
      (
        subst (λ (z : ℕ). position r ≤ z) (sym there) le,
        λ keeps. there ∙ met.6 (ap (λ (z : Shape). z.drops) (own_shape ∙ sym old_shape) ∙ keeps) ∙ ap position join,
        ap (λ (x : Reading). x.story) e ∙ ap (λ (z : ℕ). r.story ++ replicate (z - position r) false) (sym there),
      ),
    ))

pub returns-clause-within : goal.returns-clause-within
returns-clause-within g c = let s = c.reader.inside in let r : Reading = s.seat.me.0.reading in let n : ℕ = c.meet_cursor-at.result in let part = ap (λ m. m.0.reading) c.split_reading-part.ensures.reader.1 in
    let join = ap (λ (v : View). v.reading) c.join_reading.ensures.1 ∙ part in let met = c.meet_cursor-at.ensures.view in let le : position r ≤ n = subst (λ (z : Reading). position z ≤ n) join met.4 in
    let e : c.split_reading.result.me.0.reading ≡ found_at n r = ap (λ m. m.0.reading) c.split_reading.ensures.reader.1 ∙ (ap (λ (v : View). v.reading) met.0 ∙ ap (found_at n) join) in
    let there : position c.split_reading.result.me.0.reading ≡ n = ap position e ∙ position_found n r le in
    let same : next_number c.split_reading.new.seat.me.0 ≡ next_number c.sequencer.inside.seat.me.0 = ap next_number c.split_reading.ensures.seat.1 ∙ (ap next_number met.0 ∙ ap next_number c.join_reading.ensures.1) in
    let below : n ≤ next_number c.join_reading.new.seat.me.0 = met.5 in let same' : next_number c.join_reading.new.seat.me.0 ≡ next_number c.sequencer.inside.seat.me.0 = ap next_number c.join_reading.ensures.1 in
    omega arith
