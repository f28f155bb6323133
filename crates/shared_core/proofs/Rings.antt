-- What the steps of a ring make of what contracts see, of it and of the flow round it.
use Rattle.std.proofs.Common.{◌≡◌, ℕ, ◌+◌, ◌-◌, ◌<◌, ◌≤◌, min, cond, false, eqb, List, [], ◌∷◌, ◌++◌, length, drop, map, set, get_or, Option, Some, None, IfSome, IfNone, slice_get, sym, ap, ◌∙◌, subst, arith}
use Rattle.std.proofs.Math.ListN.{length-map}
use Rattle.std.proofs.lemmas.Option.{slice_get-map, slice_get-get_or, slice_get_within}
use Rattle.std.proofs.lemmas.List.Elements.{All-get_or}
use Rattle.std.specs.Option.{option_map}
use Rattle.std.specs.List.{All, list_any}
use Rattle.circular_buffer.specs.Buffer.{Buffer, buffer, keep_last}
use Rattle.shared_core.specs.declared.place.Place.{Place}
use Rattle.shared_core.specs.Places.{IsWithin, HasRoomUntil, shown_place}
use Rattle.shared_core.specs.Ringed.{Ringed, with_value, without_oldest, Receives}
use Rattle.shared_core.specs.Shown.{Seen}
use Rattle.shared_core.specs.Accepting.{with_accepted, without_oldest_of}
use Rattle.shared_core.specs.Rising.{Rises}
use Rattle.shared_core.proofs.Rising.{rises-map}
use Rattle.shared_core.proofs.Entries.{list_any-map, set-same, none_first}
use Rattle.shared_core.proofs.Latest.{kept-latest, first-kept}
use Rattle.shared_core.proofs.Standing.{IsBelow, AreWithin, without_first, received_at, shown-accepted, shown-pushed, shown-received}

-- a ring as contracts see it
abbrev pub seen_ring : {T : Type 0} → ℕ → Buffer T → ℕ → ℕ → List Place → ℕ → Ringed T
seen_ring next values cached replay places subscribers = record {
  next_number = next;
  cache = keep_last cached values.items;
  live = map (shown_place next values.items) places;
  replay = replay;
  limit = values.capacity;
  subscribers = subscribers;
}

-- what is kept of the values, and how many of them are cached, once a value was accepted by which the live ones become so
accepted_by : {T : Type 0} (next cached m replay subscribers : ℕ) (old new : Buffer T) (v : T) (places : List Place) (live : List (ℕ × List T))
    → new ≡ buffer (keep_last old.capacity (old.items ++ v ∷ [])) old.capacity → m ≡ min (cached + 1) replay → cached ≤ length old.items → replay ≤ old.capacity
    → map (shown_place (next + 1) (keep_last old.capacity (old.items ++ v ∷ []))) places ≡ map (λ e. (e.0, e.1 ++ v ∷ [])) live
    → seen_ring (next + 1) new m replay places subscribers ≡ with_value v (record (seen_ring next old cached replay places subscribers) { live = live })
accepted_by next cached m replay subscribers old new v places live is count some fits shown =
    let ys = keep_last old.capacity (old.items ++ v ∷ []) in
    ap (λ b. seen_ring (next + 1) b m replay places subscribers) is
    ∙ ap (λ (xs : List _). record (seen_ring (next + 1) (buffer ys old.capacity) m replay places subscribers) { live = xs }) shown
    ∙ ap (λ (xs : List _). record (seen_ring (next + 1) (buffer ys old.capacity) m replay places subscribers) { live = map (λ e. (e.0, e.1 ++ v ∷ [])) live; cache = xs })
    (kept-latest m cached replay old.capacity old.items v count some fits)

module _ {T : Type 0} (next cached m replay subscribers : ℕ) (old new : Buffer T) (v : T) (places : List Place)
    (is : new ≡ buffer (keep_last old.capacity (old.items ++ v ∷ [])) old.capacity) (count : m ≡ min (cached + 1) replay)
    (some : cached ≤ length old.items) (fits : replay ≤ old.capacity) (within : AreWithin next old.items old.capacity places) where
  pub accepted_shown : All (IsBelow old.capacity next) places
      → seen_ring (next + 1) new m replay places subscribers ≡ with_value v (seen_ring next old cached replay places subscribers)
  accepted_shown below =
      accepted_by next cached m replay subscribers old new v places (map (shown_place next old.items) places) is count some fits
      (shown-accepted next old.items old.capacity v places within below)

  pub pushed_shown : 0 < old.capacity → length old.items ≤ old.capacity
      → seen_ring (next + 1) new m replay places subscribers ≡ with_value v (without_oldest (seen_ring next old cached replay places subscribers))
  pushed_shown places_there kept =
      accepted_by next cached m replay subscribers old new v places (map (without_first next old.items old.capacity) (map (shown_place next old.items) places)) is count some fits
      (shown-pushed next old.items old.capacity v places places_there kept within)

-- ---- one place

module _ {T : Type 0} (next : ℕ) (values : List T) (places : List Place) (live : List (ℕ × List T)) (is : live ≡ map (shown_place next values) places) where
  -- the entry of a place
  entry_shown : (at : ℕ) (p : Place) → slice_get places at ≡ Some p → slice_get live at ≡ Some (shown_place next values p)
  entry_shown at p gets = ap (λ xs. slice_get xs at) is ∙ slice_get-map (shown_place next values) places at ∙ ap (option_map (shown_place next values)) gets

  pub found_shown : (r : Option ℕ) (n : ℕ) → IfSome r (λ i. (p : Place) × (slice_get places i ≡ Some p) × (p.number ≡ n))
      → IfSome r (λ i. (e : ℕ × List T) × (slice_get live i ≡ Some e) × (e.0 ≡ n))
  found_shown None n found = found
  found_shown (Some i) n found = (shown_place next values found.0, entry_shown i found.0 found.1, found.2)

  pub none_shown : (r : Option ℕ) (n : ℕ) → IfNone r (list_any (λ p. eqb p.number n) places ≡ false) → IfNone r (list_any (λ e. eqb e.0 n) live ≡ false)
  none_shown None n none = ap (list_any (λ e. eqb e.0 n)) is ∙ list_any-map (λ e. eqb e.0 n) (shown_place next values) places ∙ none
  none_shown (Some i) n none = none

  -- the same of a search, which asks that the numbers rise
  pub search_shown : (r : Option ℕ) (n : ℕ) → IfNone r (Rises (λ (p : Place). p.number) places → list_any (λ p. eqb p.number n) places ≡ false)
      → IfNone r (Rises (λ (e : ℕ × List T). e.0) live → list_any (λ e. eqb e.0 n) live ≡ false)
  search_shown None n none = λ rises.
      none_shown None n
      (none (rises-map (shown_place next values) (λ (e : ℕ × List T). e.0) places (subst (Rises (λ (e : ℕ × List T). e.0)) is rises)))
  search_shown (Some i) n none = none

  -- as many places as entries
  pub inside_places : (at n : ℕ) → at < length live → n ≡ length places → at < n
  inside_places at n inside long = omega (arith, inside, long, ap length is, length-map places (shown_place next values))

  module _ (at : ℕ) (p : Place) (inside : at < length live) (read : p ≡ get_or places at p) where
    at_place : at < length places
    at_place = omega (arith, inside, ap length is, length-map places (shown_place next values))

    pub read_there : slice_get places at ≡ Some p
    read_there = slice_get-get_or places at p at_place ∙ ap Some (sym read)

    pub entry_there : slice_get live at ≡ Some (shown_place next values p)
    entry_there = entry_shown at p read_there

    pub within_there : (limit : ℕ) → AreWithin next values limit places → IsWithin next limit (length values) p
    within_there limit within = subst (IsWithin next limit (length values)) (sym read) (All-get_or (IsWithin next limit (length values)) places at p at_place within)

    pub room_there : (limit until : ℕ) → All (HasRoomUntil limit until) places → HasRoomUntil limit until p
    room_there limit until ahead = subst (HasRoomUntil limit until) (sym read) (All-get_or (HasRoomUntil limit until) places at p at_place ahead)

    module _ (oldest index : ℕ) (fits : length values ≤ next) (within : p.position ≤ next) (first : oldest ≡ next - length values) (is_index : index ≡ p.position - oldest) where
      first_there : slice_get (keep_last (next - p.position) values) 0 ≡ slice_get values index
      first_there =
          let same : length values - (next - p.position) ≡ index = omega (arith, fits, within, first, is_index) in
          first-kept (next - p.position) values ∙ ap (slice_get values) same

      pub received_within : (limit : ℕ) (v : T) → slice_get values index ≡ Some v → IsWithin next limit (length values) (received_at next values oldest index p)
      received_within limit v gets = let some = slice_get_within values index v gets in (omega (arith, some, first, fits), omega (arith, some, first, fits))

      pub receives_some : (old : Ringed T) (v : T) → old.live ≡ live → slice_get values index ≡ Some v
          → Receives old at (Some v) (record old { live = map (shown_place next values) (set places at (received_at next values oldest index p)) })
      receives_some old v same gets =
          let n = next - p.position in
          record {
            number = p.number;
            pending = keep_last n values;
            was = ap (λ xs. slice_get xs at) same ∙ entry_there;
            oldest = sym (first_there ∙ gets);
            left =
                ap (λ xs. record old { live = xs })
                (shown-received next values at oldest index p places fits within first is_index (slice_get_within values index v gets)
                ∙ ap (λ xs. set xs at (p.number, drop 1 (keep_last n values))) (sym is ∙ sym same));
          }

      pub receives_none : (old : Ringed T) → old.live ≡ live → slice_get values index ≡ None → Receives old at None old
      receives_none old same gets =
          let n = next - p.position in
          let empty : keep_last n values ≡ [] = none_first (keep_last n values) (first_there ∙ gets) in
          let there : slice_get old.live at ≡ Some (p.number, keep_last n values) = ap (λ xs. slice_get xs at) same ∙ entry_there in
          record {
            number = p.number;
            pending = keep_last n values;
            was = there;
            oldest = sym (first_there ∙ gets);
            left =
                ap (λ xs. record old { live = xs })
                (sym (ap (λ ps. set old.live at (p.number, drop 1 ps)) empty ∙ set-same old.live at (p.number, []) (there ∙ ap (λ ps. Some (p.number, ps)) empty)));
          }

-- ---- the flow round a ring

-- the flow with what contracts see of another ring
abbrev pub seen_with : {T : Type 0} → Seen T → Ringed T → Seen T
seen_with seen ring = record seen { next_number = ring.next_number; cache = ring.cache; live = ring.live }

module _ {T : Type 0} (view now : Seen T) (ring new : Ringed T) (view_is : view ≡ now) (has : seen_with view ring ≡ view) where
  pub live_step : (f : List (ℕ × List T) → List (ℕ × List T)) → new ≡ record ring { live = f ring.live } → seen_with view new ≡ record now { live = f now.live }
  live_step f new_is = ap (seen_with view) new_is ∙ ap (λ (s : Seen T). record s { live = f s.live }) (has ∙ view_is)

  pub cache_step : new ≡ record ring { cache = [] } → seen_with view new ≡ record now { cache = [] }
  cache_step new_is = ap (seen_with view) new_is ∙ ap (λ (s : Seen T). record s { cache = [] }) (has ∙ view_is)

  pub open_step : (n : ℕ) → new ≡ record ring { live = ring.live ++ (n, ring.cache) ∷ [] }
      → record (seen_with view new) { subscriptions = view.subscriptions + 1 } ≡ record now { live = now.live ++ (n, now.cache) ∷ []; subscriptions = now.subscriptions + 1 }
  open_step n new_is =
      ap (λ (r : Ringed T). record (seen_with view r) { subscriptions = view.subscriptions + 1 }) new_is
      ∙ ap (λ (s : Seen T). record s { live = s.live ++ (n, s.cache) ∷ []; subscriptions = s.subscriptions + 1 }) (has ∙ view_is)

  -- an acceptance before which those with all places taken lose their oldest value
  pub push_step : (v : T) (limit : ℕ) → ring.replay ≡ view.parameters.replay → ring.limit ≡ limit → new ≡ with_value v (without_oldest ring)
      → seen_with view new ≡ with_accepted v (without_oldest_of limit now)
  push_step v limit replay same new_is =
      let left = map (λ (e : ℕ × List T). cond (eqb (length e.1) ring.limit) (e.0, drop 1 e.1) e) ring.live in
      ap (seen_with view) new_is
      ∙ ap (λ n. record view { next_number = ring.next_number + 1; cache = drop ((length ring.cache + 1) - n) (ring.cache ++ v ∷ []); live = map (λ e. (e.0, e.1 ++ v ∷ [])) left }) replay
      ∙ ap (λ n. with_accepted v (without_oldest_of n (seen_with view ring))) same
      ∙ ap (λ (s : Seen T). with_accepted v (without_oldest_of limit s)) (has ∙ view_is)
