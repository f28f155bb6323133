-- Where the seat of a state has all seats, each call answers as the function does.
use Rattle.std.proofs.Common.{◌≡◌, ◌≢◌, ◌⊎◌, inl, inr, ℕ, zero, suc, ◌+◌, ◌<◌, ◌≤◌, Bool, true, false, List, [], ◌∷◌, ◌++◌, length, map, set, slice_get, Option, Some, None, is_some, unwrap_or, MatchBool, Result, Ok, Err, if◌then◌else◌, refl, sym, ap, ◌∙◌, subst, ⊎_elim}
use Rattle.std.specs.Prelude.{MatchOption}
use Rattle.std.proofs.lemmas.Bool.{eq-eqb, ne_eqb, lt-ltb, le-ltb, cases_eq}
use Rattle.flow_terms.specs.declared.refusal.Refusal.{Refusal}
use Rattle.flow_terms.specs.declared.refusal.Refusal.TheVariants.{NoMemory, SubscribersFull}
use Rattle.flow_terms.specs.declared.ids.SubId.{SubId}
use Rattle.flow_terms.specs.declared.answers.Next.{Next}
use Rattle.flow_terms.specs.declared.answers.Next.TheVariants.{Value, Nothing}
use Rattle.state_flow.specs.declared.seat.collecting.SeatCollector.{SeatCollector}
use Rattle.state_flow.specs.declared.view.View.{View}
use Rattle.state_flow.specs.History.{last_of, Writes}
use Rattle.state_flow.specs.Views.{HasAll}
use Rattle.state_flow.specs.Calls as seats
use Rattle.state_flow.proofs.Lists.{last_snoc}
use Rattle.script_engines.specs.Keeping.{Kept, collecting, standing, written, compared, collector_count, collected, is_last, next_by, cancel_by, cancelled}
use Rattle.script_engines.specs.Watching.{Watch, ShowEach, Shows, Follows, NextsAt, CancelsAt, AddsOne, next_of, watching, ActsAsKept}

-- ---- each collector

-- what is found at an index
abbrev AtEach : Option (Option SeatCollector) → Option (Option (List ℕ)) → Type 0
AtEach None None = Unit {0}
AtEach (Some None) (Some None) = Unit {0}
AtEach (Some (Some place)) (Some (Some given)) = place.last ≡ last_of given
AtEach place list = ⊥

show_at : (places : List (Option SeatCollector)) (lists : List (Option (List ℕ))) (index : ℕ) → ShowEach places lists → AtEach (slice_get places index) (slice_get lists index)
show_at [] [] index show = tt
show_at (None ∷ places) (None ∷ lists) zero show = tt
show_at (Some place ∷ places) (Some given ∷ lists) zero show = show.0
show_at (None ∷ places) (None ∷ lists) (suc index) show = show_at places lists index show
show_at (Some place ∷ places) (Some given ∷ lists) (suc index) show = show_at places lists index show.1
show_at places lists index show = absurd show

-- a collector was given one more
show_set : (places : List (Option SeatCollector)) (lists : List (Option (List ℕ))) (index : ℕ) (place : SeatCollector) (given : List ℕ) → ShowEach places lists → place.last ≡ last_of given
    → ShowEach (set places index (Some place)) (set lists index (Some given))
show_set [] [] index place given show is = tt
show_set (None ∷ places) (None ∷ lists) zero place given show is = (is, show)
show_set (Some first ∷ places) (Some list ∷ lists) zero place given show is = (is, show.1)
show_set (None ∷ places) (None ∷ lists) (suc index) place given show is = show_set places lists index place given show is
show_set (Some first ∷ places) (Some list ∷ lists) (suc index) place given show is = (show.0, show_set places lists index place given show.1 is)
show_set places lists index place given show is = absurd show

-- a collector was given nothing
show_same : (places : List (Option SeatCollector)) (lists : List (Option (List ℕ))) (index : ℕ) (place : SeatCollector) (given : List ℕ) → ShowEach places lists → slice_get lists index ≡ Some (Some given) → place.last ≡ last_of given
    → ShowEach (set places index (Some place)) lists
show_same [] [] index place given show at is = tt
show_same (None ∷ places) (None ∷ lists) zero place given show at is = absurd cc
show_same (Some first ∷ places) (Some list ∷ lists) zero place given show at is = (let same : list ≡ given = cc in is ∙ ap last_of (sym same), show.1)
show_same (None ∷ places) (None ∷ lists) (suc index) place given show at is = show_same places lists index place given show at is
show_same (Some first ∷ places) (Some list ∷ lists) (suc index) place given show at is = (show.0, show_same places lists index place given show.1 at is)
show_same places lists index place given show at is = absurd show

-- a collector was cancelled
show_none : (places : List (Option SeatCollector)) (lists : List (Option (List ℕ))) (index : ℕ) → ShowEach places lists → ShowEach (set places index None) (set lists index None)
show_none [] [] index show = tt
show_none (None ∷ places) (None ∷ lists) zero show = show
show_none (Some first ∷ places) (Some list ∷ lists) zero show = show.1
show_none (None ∷ places) (None ∷ lists) (suc index) show = show_none places lists index show
show_none (Some first ∷ places) (Some list ∷ lists) (suc index) show = (show.0, show_none places lists index show.1)
show_none places lists index show = absurd show

-- one more collects
show_more : (places : List (Option SeatCollector)) (lists : List (Option (List ℕ))) → ShowEach places lists → ShowEach (places ++ Some (record { last = None }) ∷ []) (lists ++ Some [] ∷ [])
show_more [] [] show = (refl, tt)
show_more (None ∷ places) (None ∷ lists) show = show_more places lists show
show_more (Some first ∷ places) (Some list ∷ lists) show = (show.0, show_more places lists show.1)
show_more places lists show = absurd show

show_stands : (places : List (Option SeatCollector)) (lists : List (Option (List ℕ))) → ShowEach places lists → map is_some places ≡ map is_some lists
show_stands [] [] show = refl
show_stands (None ∷ places) (None ∷ lists) show = ap (λ rest. false ∷ rest) (show_stands places lists show)
show_stands (Some first ∷ places) (Some list ∷ lists) show = ap (λ rest. true ∷ rest) (show_stands places lists show.1)
show_stands places lists show = absurd show

show_many : (places : List (Option SeatCollector)) (lists : List (Option (List ℕ))) → ShowEach places lists → length places ≡ length lists
show_many [] [] show = refl
show_many (None ∷ places) (None ∷ lists) show = ap suc (show_many places lists show)
show_many (Some first ∷ places) (Some list ∷ lists) show = ap suc (show_many places lists show.1)
show_many places lists show = absurd show

-- ---- the value

same_some : (x y : ℕ) → Some x ≡ Some y → x ≡ y
same_some x y e = cc

still_all : (v w : View ℕ) → w.share ≡ v.share → w.seats ≡ v.seats → HasAll v → HasAll w
still_all v w share seats all = share ∙ (all ∙ sym seats)

-- what was read is what stands
is_standing : (history : List ℕ) (kept : Kept) (value : ℕ) → history ≡ kept.history → last_of history ≡ Some value → value ≡ standing kept
is_standing history kept value seen last = ap (λ o. unwrap_or o 0) (sym last ∙ ap last_of seen)

-- a step that read the value
read_shows : (old new : Watch) (kept : Kept) (value : ℕ) → Shows old kept → seats.Reads old.seat.view value new.seat.view → seats.ReadsAlone old.seat.view value new.seat.view → new.collectors ≡ old.collectors
    → (value ≡ standing kept) × Shows new kept
read_shows old new kept value shows reads alone same =
    let found = alone shows.all in (
      is_standing old.seat.view.seen kept value shows.seen found.1,
      record {
        all = still_all old.seat.view new.seat.view (ap (λ (v : View ℕ). v.share) reads.one_step.only) (ap (λ (v : View ℕ). v.seats) reads.one_step.only) shows.all;
        seen = found.2 ∙ shows.seen;
        stands = shows.stands;
        each = subst (λ places. ShowEach places kept.collectors) (sym same) shows.each;
      },
    )

-- a step that wrote a value
written_shows : (kept : Kept) (value : ℕ) (new : Watch) → HasAll new.seat.view → last_of kept.history ≡ Some (standing kept) → ShowEach new.collectors kept.collectors → Writes kept.history value new.seat.view.seen → Shows new (written value kept)
written_shows kept value new all stands each writes =
    let P : Bool → Type 0 = λ same. Shows new (if same then kept else record kept { history = kept.history ++ value ∷ [] }) in
    ⊎_elim
    (λ (e : standing kept ≡ value). subst P (sym (eq-eqb (standing kept) value e))
    record { all = all; seen = writes.0 (stands ∙ ap (λ (x : ℕ). Some x) e); stands = stands; each = each })
    (λ (n : standing kept ≡ value → ⊥).
    let last = last_snoc kept.history value in
    subst P (sym (ne_eqb (standing kept) value n))
    record {
      all = all;
      seen = writes.1 (λ e. n (same_some (standing kept) value (sym stands ∙ e)));
      stands = last ∙ ap (λ (x : ℕ). Some x) (sym (ap (λ o. unwrap_or o 0) last));
      each = each;
    })
    (cases_eq (standing kept) value)

compared_shows : (held : Bool) (old new : Watch) (kept : Kept) (expect update : ℕ) → Shows old kept → HasAll new.seat.view → new.collectors ≡ old.collectors
    → MatchBool held ((last_of old.seat.view.seen ≡ Some expect) × Writes old.seat.view.seen update new.seat.view.seen) ((last_of old.seat.view.seen ≢ Some expect) × (new.seat.view.seen ≡ old.seat.view.seen))
    → (held ≡ (compared expect update kept).0) × Shows new (compared expect update kept).1
compared_shows true old new kept expect update shows all same h =
    let stood : standing kept ≡ expect = sym (is_standing old.seat.view.seen kept expect shows.seen h.0) in
    let is = eq-eqb (standing kept) expect stood in (
      sym is,
      subst (λ (hits : Bool). Shows new (if hits then written update kept else kept)) (sym is)
          (written_shows kept update new all shows.stands (subst (λ places. ShowEach places kept.collectors) (sym same) shows.each) (subst (λ (l : List ℕ). Writes l update new.seat.view.seen) shows.seen h.1)),
    )
compared_shows false old new kept expect update shows all same h =
    let is = ne_eqb (standing kept) expect (λ e. h.0 (ap last_of shows.seen ∙ (shows.stands ∙ ap (λ (x : ℕ). Some x) e))) in (
      sym is,
      subst (λ (hits : Bool). Shows new (if hits then written update kept else kept)) (sym is)
          record { all = all; seen = h.1 ∙ shows.seen; stands = shows.stands; each = subst (λ places. ShowEach places kept.collectors) (sym same) shows.each },
    )

-- ---- collectors

-- nothing changed
shows_still : (old new : Watch) (kept : Kept) → new ≡ old → Shows old kept → Shows new kept
shows_still old new kept same shows = subst (λ watch. Shows watch kept) (sym same) shows

last_is : (value : ℕ) (last : Option ℕ) → last ≡ Some value → is_last value last ≡ true
last_is value last is = ap (is_last value) is ∙ eq-eqb value value refl

last_is_not : (value : ℕ) (last : Option ℕ) → last ≢ Some value → is_last value last ≡ false
last_is_not value None not = refl
last_is_not value (Some other) not = ne_eqb other value (λ e. not (ap (λ (x : ℕ). Some x) e))

-- what comes of an ask, by whether the value was the last one given
abbrev next_when : Bool → ℕ → List ℕ → Kept → Next ℕ × Kept
next_when same index given kept = if same
    then (Nothing, kept)
    else (Value (standing kept), record kept { collectors = set kept.collectors index (Some (given ++ standing kept ∷ [])) })

-- a collector was asked
asked : (given' : Option ℕ) (index value : ℕ) (old new : Watch) (place left : SeatCollector) (given : List ℕ) (kept : Kept) → Shows old kept → Shows (record new { collectors = old.collectors }) kept → value ≡ standing kept
    → new.collectors ≡ set old.collectors index (Some left) → place.last ≡ last_of given → slice_get kept.collectors index ≡ Some (Some given) → left.last ≡ Some value
    → MatchOption given' (place.last ≡ Some value) (λ x. (x ≡ value) × (place.last ≢ Some value))
    → (next_of given' ≡ (next_by index (Some (Some given)) kept).0) × Shows new (next_by index (Some (Some given)) kept).1
asked None index value old new place left given kept shows seat is only was at now answers =
    let value_is : (x : Option ℕ) → x ≡ Some value → x ≡ Some (standing kept) = λ x e. e ∙ ap (λ (y : ℕ). Some y) is in
    let last : is_last (standing kept) (last_of given) ≡ true = last_is (standing kept) (last_of given) (value_is (last_of given) (sym was ∙ answers)) in
    let P : Bool → Type 0 = λ same. (Nothing ≡ (next_when same index given kept).0) × Shows new (next_when same index given kept).1 in
    subst P (sym last) (
      refl,
      record {
        all = seat.all;
        seen = seat.seen;
        stands = seat.stands;
        each = subst (λ places. ShowEach places kept.collectors) (sym only) (show_same old.collectors kept.collectors index left given shows.each at (now ∙ (sym answers ∙ was)));
      },
    )
asked (Some x) index value old new place left given kept shows seat is only was at now answers =
    let last : is_last (standing kept) (last_of given) ≡ false = last_is_not (standing kept) (last_of given) (λ e. answers.1 (was ∙ (e ∙ ap (λ (y : ℕ). Some y) (sym is)))) in
    let P : Bool → Type 0 = λ same. (Value x ≡ (next_when same index given kept).0) × Shows new (next_when same index given kept).1 in
    subst P (sym last) (
      ap (λ (y : ℕ). Value y) (answers.0 ∙ is),
      record {
        all = seat.all;
        seen = seat.seen;
        stands = seat.stands;
        each = subst (λ places. ShowEach places (set kept.collectors index (Some (given ++ standing kept ∷ [])))) (sym only)
            (show_set old.collectors kept.collectors index left (given ++ standing kept ∷ []) shows.each (now ∙ (ap (λ (y : ℕ). Some y) is ∙ sym (last_snoc given (standing kept)))));
      },
    )

nexts_by : (index : ℕ) (found : Option (Option SeatCollector)) (list : Option (Option (List ℕ))) (old new : Watch) (reply : Next ℕ) (kept : Kept) → AtEach found list → slice_get kept.collectors index ≡ list → NextsAt found old index reply new → Shows old kept
    → (reply ≡ (next_by index list kept).0) × Shows new (next_by index list kept).1
nexts_by index None None old new reply kept at is h shows = (h.0, shows_still old new kept h.1 shows)
nexts_by index (Some None) (Some None) old new reply kept at is h shows = (h.0, shows_still old new kept h.1 shows)
nexts_by index (Some (Some place)) (Some (Some given)) old new reply kept at is h shows =
    let one = read_shows old (record new { collectors = old.collectors }) kept h.1.asked.value shows h.1.asked.reads h.1.asked.alone refl in
    let came = asked h.1.given index h.1.asked.value old new place h.0 given kept shows one.1 one.0 h.2 at is h.1.asked.now_is h.1.asked.answers in
    (h.1.replied ∙ came.0, came.1)
nexts_by index found list old new reply kept at is h shows = absurd at

cancels_by : (index : ℕ) (found : Option (Option SeatCollector)) (list : Option (Option (List ℕ))) (old new : Watch) (reply : Bool) (kept : Kept) → AtEach found list → CancelsAt found old index reply new → Shows old kept
    → (reply ≡ (cancel_by index list kept).0) × Shows new (cancel_by index list kept).1
cancels_by index None None old new reply kept at h shows = (h.0, shows_still old new kept h.1 shows)
cancels_by index (Some None) (Some None) old new reply kept at h shows = (h.0, shows_still old new kept h.1 shows)
cancels_by index (Some (Some place)) (Some (Some given)) old new reply kept at h shows = (
  h.0,
  record {
    all = still_all old.seat.view new.seat.view (ap (λ (v : View ℕ). v.share) h.2.only) (ap (λ (v : View ℕ). v.seats) h.2.only) shows.all;
    seen = ap (λ (v : View ℕ). v.seen) h.2.only ∙ shows.seen;
    stands = shows.stands;
    each = subst (λ places. ShowEach places (set kept.collectors index None)) (sym h.3) (show_none old.collectors kept.collectors index shows.each);
  },
)
cancels_by index found list old new reply kept at h shows = absurd at

abbrev id_of : ℕ → SubId
id_of place = record { 0 = place }

abbrev okay : SubId → Result SubId Refusal
okay id = Ok id

-- what comes of one more collector, by whether there is room
abbrev come : Bool → Kept → Result SubId Refusal × Kept
come fits kept = if fits
    then (Ok (record { 0 = length kept.collectors }), record kept { collectors = kept.collectors ++ Some [] ∷ [] })
    else (Err SubscribersFull, kept)

launched : (old new : Watch) (id : SubId) (kept : Kept) → id.0 ≡ length old.collectors → collecting (map is_some old.collectors) < 8 → AddsOne old new → Shows old kept → (okay id ≡ (collected kept).0) × Shows new (collected kept).1
launched old new id kept named few adds shows =
    let fewer : collector_count kept < 8 = subst (λ (l : List Bool). collecting l < 8) (show_stands old.collectors kept.collectors shows.each) few in
    let name : id ≡ id_of (length kept.collectors) = ap id_of (named ∙ show_many old.collectors kept.collectors shows.each) in
    subst (λ (fits : Bool). (okay id ≡ (come fits kept).0) × Shows new (come fits kept).1) (sym (lt-ltb (collector_count kept) 8 fewer)) (
      ap okay name,
      record {
        all = still_all old.seat.view new.seat.view (ap (λ (v : View ℕ). v.share) adds.launches.only) (ap (λ (v : View ℕ). v.seats) adds.launches.only) shows.all;
        seen = ap (λ (v : View ℕ). v.seen) adds.launches.only ∙ shows.seen;
        stands = shows.stands;
        each = subst (λ places. ShowEach places (kept.collectors ++ Some [] ∷ [])) (sym adds.only) (show_more old.collectors kept.collectors shows.each);
      },
    )

full : (old new : Watch) (reply : Result SubId Refusal) (kept : Kept) → 8 ≤ collecting (map is_some old.collectors) → reply ≡ Err SubscribersFull → new ≡ old → Shows old kept → (reply ≡ (collected kept).0) × Shows new (collected kept).1
full old new reply kept many refused same shows =
    let all : 8 ≤ collector_count kept = subst (λ (l : List Bool). 8 ≤ collecting l) (show_stands old.collectors kept.collectors shows.each) many in
    subst (λ (fits : Bool). (reply ≡ (come fits kept).0) × Shows new (come fits kept).1) (sym (le-ltb (collector_count kept) 8 all)) (refused, shows_still old new kept same shows)

collects_by : (old new : Watch) (reply : Result SubId Refusal) → watching.Collects old reply new → ((reply ≡ Err NoMemory) × (new ≡ old)) ⊎ Follows collected old reply new
collects_by old new (Ok id) h = inr (λ kept shows. launched old new id kept h.0 h.1 h.2 shows)
collects_by old new (Err refusal) h = ⊎_elim
    (λ (e : refusal ≡ NoMemory). inl (ap (λ (r : Refusal). Err r) e, h.0))
    (λ (f : (refusal ≡ SubscribersFull) × (8 ≤ collecting (map is_some old.collectors))). inr (λ kept shows. full old new (Err refusal) kept f.1 (ap (λ (r : Refusal). Err r) f.0) h.0 shows))
    h.1

-- EACH CALL ANSWERS AS THE FUNCTION
pub acts_as_kept : ActsAsKept
acts_as_kept = record {
  reads = λ old new value h kept shows. read_shows old new kept value shows h.2.0 h.2.1 h.0;
  collects_one = collects_by;
  nexts = λ old new id reply h kept shows. nexts_by id.0 (slice_get old.collectors id.0) (slice_get kept.collectors id.0) old new reply kept (show_at old.collectors kept.collectors id.0 shows.each) refl h shows;
  cancels = λ old new id reply h kept shows. cancels_by id.0 (slice_get old.collectors id.0) (slice_get kept.collectors id.0) old new reply kept (show_at old.collectors kept.collectors id.0 shows.each) h shows;
  counts = λ old new count h kept shows.
      let only = h.2.0.only in (
        h.2.1 shows.all ∙ ap collecting (show_stands old.collectors kept.collectors shows.each),
        record {
          all = still_all old.seat.view new.seat.view (ap (λ (v : View ℕ). v.share) only) (ap (λ (v : View ℕ). v.seats) only) shows.all;
          seen = ap (λ (v : View ℕ). v.seen) only ∙ shows.seen;
          stands = shows.stands;
          each = subst (λ places. ShowEach places kept.collectors) (sym h.0) shows.each;
        },
      );
  sets = λ old new value h kept shows.
      let only = h.2.0.one_step.only in
      written_shows kept value new (still_all old.seat.view new.seat.view (ap (λ (v : View ℕ). v.share) only) (ap (λ (v : View ℕ). v.seats) only) shows.all) shows.stands
      (subst (λ places. ShowEach places kept.collectors) (sym h.0) shows.each)
      (subst (λ (l : List ℕ). Writes l value new.seat.view.seen) shows.seen (h.2.1 shows.all).1);
  compares = λ old new expect update held h kept shows.
      let only = h.2.0.one_step.only in
      compared_shows held old new kept expect update shows (still_all old.seat.view new.seat.view (ap (λ (v : View ℕ). v.share) only) (ap (λ (v : View ℕ). v.seats) only) shows.all) h.0 (h.2.1 shows.all).1;
}
