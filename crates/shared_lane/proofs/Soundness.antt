-- What is true of every sequencer stays true.
use Rattle.std.proofs.Common.{◌≡◌, ℕ, zero, suc, Some, refl, ◌+◌, ◌≤◌, ◌<◌, true, List, [], ◌∷◌, ◌++◌, length, map, take, drop, sym, ap, ◌∙◌, subst, arith, length-append}
use Rattle.std.proofs.lemmas.Grind.{common_steps}
use Rattle.std.proofs.lemmas.List.{map-append, length-take, length-drop}
use Rattle.atomic_table.specs.Seated.{TableId}
use Rattle.circular_buffer.specs.Buffer.{keep_last}
use Rattle.shared_lane.specs.declared.view.Shape.{Shape}
use Rattle.shared_lane.specs.declared.view.View.{View}
use Rattle.shared_lane.specs.Law.{Entry}
use Rattle.shared_lane.specs.Steps.{next_number}
use Rattle.shared_lane.specs.declared.tickets.Waiting.{Waiting}
use Rattle.shared_lane.specs.declared.tickets.Standing.{Standing}
use Rattle.shared_lane.specs.Caches.{emitter_at, word_of, IsLastOf, AreAccepted}
use Rattle.shared_lane.specs.Views.{SequencerSeen}
use Rattle.shared_lane.specs.Kept.{IsSound}
use Rattle.shared_lane.specs.Surveys.{opening_at}
use Rattle.shared_lane.specs.Polls.{given_back, withdrawn_from}
use Rattle.shared_lane.specs.Sequencers.{next, accepted_on}
use Rattle.shared_lane.specs.Blocks.{accepted_all}
use Rattle.shared_lane.proofs.Entries.{cached_after}
use Rattle.shared_lane.specs.Ordering.{IsInOrder, StandsLast}
use Rattle.shared_lane.proofs.Ordering.{order_accepted, order_given_back, order_withdrawn, order_waited, order_used, order_stood, order_left}
use Rattle.shared_lane.proofs.Outstanding.{stand_on, stand_without}

-- what a sequencer is shown as, where its seat and its cache changed
pub shown_after : (q : SequencerSeen) {t : TableId} {v w : View} {n m : ℕ} {xs ys : List ℕ} → t ≡ q.table → v ≡ w → n ≡ m → xs ≡ ys
    → (let s : SequencerSeen = record q { table = t; view = v; replay = n; cache = xs } in s) ≡ record q { view = w; replay = m; cache = ys }
shown_after q table view replay cache = λ i. record q { table = table i; view = view i; replay = replay i; cache = cache i }

pub sound_accepted_all : (q : SequencerSeen) (es : List Entry) → IsSound q → next q + length es + length q.waiting ≤ 4611686018427387904 → IsSound (accepted_all es q)
sound_accepted_all q es was below = let longer : length (q.view.seen ++ es) ≡ length q.view.seen + length es = length-append q.view.seen es in record {
  active = was.active;
  no_flight = was.no_flight;
  each_place_known = was.each_place_known;
  some_place = was.some_place;
  cells = was.cells;
  drops = was.drops;
  replay = was.replay;
  few_tickets = was.few_tickets;
  few_emits = was.few_emits;
  numbers = omega arith;
  tickets = was.tickets;
  subscriptions = was.subscriptions;
  openings = was.openings;
  waits = was.waits;
  stands = stand_on q.view.shape.first q.view.seen es q.standing was.stands;
  cached = cached_after q.replay q.view.seen es q.cache was.cached;
  in_order = order_accepted q.standing q.waiting q.ticket (next_number q.view) was.in_order (q.view.shape.first + length (q.view.seen ++ es)) (omega (arith, longer));
}

-- one emission is accepted as a list of one is
pub sound_accepted : (q : SequencerSeen) (e : Entry) → IsSound q → next q + length q.waiting < 4611686018427387904 → IsSound (accepted_on e q)
sound_accepted q e was below = sound_accepted_all q (e ∷ []) was (omega arith)

pub sound_given_back : (i : ℕ) (q : SequencerSeen) → IsSound q → IsSound (given_back i q)
sound_given_back i q was = let a = length-take i q.standing in let b = length-drop (suc i) q.standing in let c = length-append (take i q.standing) (drop (suc i) q.standing) in record {
  active = was.active;
  no_flight = was.no_flight;
  each_place_known = was.each_place_known;
  some_place = was.some_place;
  cells = was.cells;
  drops = was.drops;
  replay = was.replay;
  few_tickets = let few = was.few_tickets in omega arith;
  few_emits = was.few_emits;
  numbers = was.numbers;
  tickets = was.tickets;
  subscriptions = was.subscriptions;
  openings = was.openings;
  waits = was.waits;
  stands = stand_without q.view.shape.first q.view.seen q.standing i was.stands;
  cached = was.cached;
  in_order = order_given_back q.standing q.waiting q.ticket (next_number q.view) was.in_order i;
}

none_out : {X : Type 0} (i : ℕ) → take {A = X} i [] ++ drop {A = X} (suc i) [] ≡ []
none_out zero = refl
none_out (suc i) = refl

-- these wait now, of those that waited, and another ticket is the next
sound_waiting : (q : SequencerSeen) (waiting : List Waiting) → IsSound q → length waiting ≤ length q.waiting → (q.waiting ≡ [] → waiting ≡ [])
    → IsInOrder q.standing waiting q.ticket (next_number q.view) → IsSound (record q { waiting = waiting })
sound_waiting q waiting was fewer none order = record {
  active = was.active;
  no_flight = was.no_flight;
  each_place_known = was.each_place_known;
  some_place = was.some_place;
  cells = was.cells;
  drops = was.drops;
  replay = was.replay;
  few_tickets = let few = was.few_tickets in omega (arith, few, fewer);
  few_emits = was.few_emits;
  numbers = let few = was.numbers in omega (arith, few, fewer);
  tickets = was.tickets;
  subscriptions = was.subscriptions;
  openings = was.openings;
  waits = λ no. none (was.waits no);
  stands = was.stands;
  cached = was.cached;
  in_order = order;
}

pub sound_left : (q : SequencerSeen) → IsSound q → IsSound (record q { waiting = drop 1 q.waiting })
sound_left q was = let less = length-drop 1 q.waiting in sound_waiting q (drop 1 q.waiting) was (omega (arith, less)) (λ none. ap (drop 1) none)
    (order_left q.standing q.waiting q.ticket (next_number q.view) was.in_order)

pub sound_withdrawn : (i : ℕ) (q : SequencerSeen) → IsSound q → IsSound (withdrawn_from i q)
sound_withdrawn i q was = let a = length-take i q.waiting in let b = length-drop (suc i) q.waiting in let c = length-append (take i q.waiting) (drop (suc i) q.waiting) in
    sound_waiting q (take i q.waiting ++ drop (suc i) q.waiting) was (omega arith) (λ none. subst (λ l. take i l ++ drop (suc i) l ≡ []) (sym none) (none_out i))
    (order_withdrawn q.standing q.waiting q.ticket (next_number q.view) was.in_order i)

pub sound_stood : (q : SequencerSeen) (x : Standing) → IsSound q → length q.waiting + length q.standing < q.emits → emitter_at q.view.shape.first q.view.seen x.number ≡ Some x.emitter
    → StandsLast q x.ticket x.number → x.number < next_number q.view → IsSound (record q { standing = q.standing ++ x ∷ [] })
sound_stood q x was few accepted last low = record {
  active = was.active;
  no_flight = was.no_flight;
  each_place_known = was.each_place_known;
  some_place = was.some_place;
  cells = was.cells;
  drops = was.drops;
  replay = was.replay;
  few_tickets = let more = length-append q.standing (x ∷ []) in omega (arith, more, few);
  few_emits = was.few_emits;
  numbers = was.numbers;
  tickets = was.tickets;
  subscriptions = was.subscriptions;
  openings = was.openings;
  waits = was.waits;
  stands = map-append (λ (z : Standing). emitter_at q.view.shape.first q.view.seen z.number) q.standing (x ∷ []) ∙ (λ i. was.stands i ++ accepted i ∷ []) ∙ sym (map-append (λ (z : Standing). Some z.emitter) q.standing (x ∷ []));
  cached = was.cached;
  in_order = order_stood q.standing q.waiting q.ticket (next_number q.view) was.in_order x last.0 last.1 last.2 low;
}

-- it has loaded cursors, and may have admitted a reader
pub sound_seeing : (q : SequencerSeen) (v : View) (subscription : ℕ) → IsSound q → v.shape ≡ q.view.shape → v.seen ≡ q.view.seen → v.sequencing.active ≡ true → v.sequencing.flight ≡ []
    → length v.sequencing.places ≡ length q.view.sequencing.places → subscription ≤ 4611686018427387904 → ((p : ℕ) → opening_at v p ≤ subscription) → IsSound (record q { view = v; subscription = subscription })
sound_seeing q v subscription was shape log active flight places few openings = record {
  active = active;
  no_flight = flight;
  each_place_known = places ∙ was.each_place_known ∙ ap (λ (z : Shape). z.places) (sym shape);
  some_place = subst (λ (z : Shape). 0 < z.places) (sym shape) was.some_place;
  cells = ap (λ (z : Shape). z.cells) shape ∙ was.cells;
  drops = ap (λ (z : Shape). z.drops) shape ∙ was.drops;
  replay = was.replay;
  few_tickets = was.few_tickets;
  few_emits = was.few_emits;
  numbers = let e : next_number v ≡ next_number q.view = (λ i. (shape i).first + length (log i)) in let n = was.numbers in omega arith;
  tickets = was.tickets;
  subscriptions = few;
  openings = openings;
  waits = was.waits;
  stands = subst (λ (z : ℕ × List Entry). AreAccepted z.0 z.1 q.standing) (λ i. ((sym shape i).first, sym log i)) was.stands;
  cached = subst (λ l. IsLastOf l q.cache) (sym log) was.cached;
  in_order = subst (λ n. IsInOrder q.standing q.waiting q.ticket n) (λ i. (sym shape i).first + length (sym log i)) was.in_order;
}
