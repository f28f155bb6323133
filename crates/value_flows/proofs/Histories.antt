-- What a list of calls leaves: the latest of the values that it had the flow accept.
use Rattle.std.proofs.Common.{◌≡◌, ◌≢◌, ℕ, Option, Some, None, set, ◌+◌, ◌-◌, ◌<◌, ◌≤◌, min, max, List, [], ◌∷◌, ◌++◌, length, drop, slice_get, refl, sym, ap, ◌∙◌, subst, append_assoc, append-nil, length-append, arith}
use Rattle.std.specs.List.{All}
use Rattle.std.proofs.lemmas.List.Elements.{All-set, All-weaker}
use Rattle.flow_terms.specs.Lists.{IsPrefix}
use Rattle.round_lock.specs.History.{After}
use Rattle.round_lock.specs.History.After.{new, more}
use Rattle.circular_buffer.specs.Buffer.{keep_last}
use Rattle.flow_terms.specs.declared.policy.Policy.TheVariants as policy
use Rattle.value_flows.specs.declared.round.Round.{Round}
use Rattle.value_flows.specs.declared.round.Round.TheVariants as round
use Rattle.value_flows.specs.declared.ring.Ring.{Ring}
use Rattle.value_flows.specs.Does.{IsFirst, Does, HaveRoom, IsKept, moved, oldest_of, cache_start, with_value}
use Rattle.value_flows.specs.Cursors.{HasRoom, Reaches}
use Rattle.value_flows.specs.Accepted.{accepted_by, accepted_in, IsLatest}
use Rattle.value_flows.proofs.Lists.{got_dropped, length-kept, newest, kept-push}

-- who has room still has no more pending than there are places, once one value more is accepted
room_reaches : (next places : ℕ) (cursor : Option ℕ) → HasRoom next places cursor → Reaches (next + 1) places cursor
room_reaches next places None room = tt
room_reaches next places (Some cursor) room = omega arith

none_reaches : (next places : ℕ) (cursor : Option ℕ) → cursor ≡ None → Reaches next places cursor
none_reaches next places cursor none = subst (Reaches next places) (sym none) tt

module _ {T : Type 0} where
  -- one call more
  pub accepted_more : (calls : List (ℕ × Round × Ring T)) (t : ℕ × Round × Ring T) → accepted_in (calls ++ t ∷ []) ≡ accepted_in calls ++ accepted_by t.1 t.2
  accepted_more [] t = append-nil (accepted_by t.1 t.2)
  accepted_more (u ∷ calls) t = ap (λ (l : List T). accepted_by u.1 u.2 ++ l) (accepted_more calls t) ∙ sym (append_assoc (accepted_by u.1 u.2) (accepted_in calls) (accepted_by t.1 t.2))

  accepted_on : (calls later : List (ℕ × Round × Ring T)) → accepted_in (calls ++ later) ≡ accepted_in calls ++ accepted_in later
  accepted_on [] later = refl
  accepted_on (u ∷ calls) later = ap (λ (l : List T). accepted_by u.1 u.2 ++ l) (accepted_on calls later) ∙ sym (append_assoc (accepted_by u.1 u.2) (accepted_in calls) (accepted_in later))

  -- the list of values only grows
  pub accepted_prefix : (calls start : List (ℕ × Round × Ring T)) → IsPrefix start calls → length (accepted_in start) ≤ length (accepted_in calls)
  accepted_prefix calls start begins =
      let grown = ap accepted_in begins.1 ∙ accepted_on start begins.0 in
      let count = ap length grown ∙ length-append (accepted_in start) (accepted_in begins.0) in
      omega arith

  -- a call that has the flow accept nothing
  pub accepted_stays : (calls : List (ℕ × Round × Ring T)) (t : ℕ × Round × Ring T) → accepted_by t.1 t.2 ≡ [] → accepted_in (calls ++ t ∷ []) ≡ accepted_in calls
  accepted_stays calls t none = accepted_more calls t ∙ ap (λ (l : List T). accepted_in calls ++ l) none ∙ append-nil (accepted_in calls)

  -- the newest value is the one that was accepted
  pub newest_is : (accepted : List T) (s : Ring T) (value : T) → IsLatest accepted s → accepted_by round.Emit (with_value value s) ≡ value ∷ []
  newest_is accepted s value is = newest s.values.capacity s.values.items value is.some_place

  -- no more are kept than were accepted
  pub count_is : (accepted : List T) (ring : Ring T) → IsLatest accepted ring → length ring.values.items ≡ min ring.values.capacity (length accepted)
  count_is accepted ring is = ap length is.latest ∙ length-kept ring.values.capacity accepted

  pub counted : (accepted : List T) (ring : Ring T) → IsLatest accepted ring → length ring.values.items ≤ ring.next
  counted accepted ring is = let count = count_is accepted ring is in let number = is.number in omega (arith, count, number)

  -- the oldest that is kept
  pub oldest_is : (accepted : List T) (ring : Ring T) → IsLatest accepted ring → oldest_of ring ≡ length accepted - ring.values.capacity
  oldest_is accepted ring is = let count = count_is accepted ring is in let number = is.number in omega (arith, count, number)

  latest_with : (accepted : List T) (s : Ring T) (value : T) → (s.policy ≢ policy.DropOldest → HaveRoom s) → IsLatest accepted s → IsLatest (accepted ++ value ∷ []) (with_value value s)
  latest_with accepted s value room is = record {
    some_place = is.some_place;
    latest = ap (λ (l : List T). keep_last s.values.capacity (l ++ value ∷ [])) is.latest ∙ kept-push s.values.capacity accepted value is.some_place;
    number = let count = length-append accepted (value ∷ []) in let before = is.number in omega (arith, count, before);
    replays = is.replays;
    forgotten = let before = is.forgotten in omega (arith, before);
    listed = λ keeps. All-weaker (HasRoom s.next s.values.capacity) (Reaches (s.next + 1) s.values.capacity) (room_reaches s.next s.values.capacity) s.cursors (room keeps);
  }

  latest_forgotten : (accepted : List T) (s : Ring T) → IsLatest accepted s → IsLatest accepted (record s { forgotten = s.next })
  latest_forgotten accepted s is = record { some_place = is.some_place; latest = is.latest; number = is.number; replays = is.replays; forgotten = omega arith; listed = is.listed }

  latest_moved : (accepted : List T) (s : Ring T) (place : ℕ) (cursor : Option ℕ) → Reaches s.next s.values.capacity cursor → IsLatest accepted s → IsLatest accepted (moved place cursor s)
  latest_moved accepted s place cursor reaches is = record {
    some_place = is.some_place;
    latest = is.latest;
    number = is.number;
    replays = is.replays;
    forgotten = is.forgotten;
    listed = λ keeps. All-set (Reaches s.next s.values.capacity) s.cursors place cursor reaches (is.listed keeps);
  }

  -- what a call left, where the call had the flow accept nothing
  stays : (calls : List (ℕ × Round × Ring T)) (pass : ℕ) (r : Round) (left t : Ring T) → IsLatest (accepted_in calls) left → t ≡ left → accepted_by r t ≡ [] → IsLatest (accepted_in (calls ++ (pass, r, t) ∷ [])) t
  stays calls pass r left t is same none = subst (λ l. IsLatest l t) (sym (accepted_stays calls (pass, r, t) none)) (subst (IsLatest (accepted_in calls)) (sym same) is)

  prefix_within : (accepted : List T) (s : Ring T) (start : ℕ) → IsLatest accepted s → start ≡ cache_start s → Reaches s.next s.values.capacity (Some start)
  prefix_within accepted s start is at = let few = is.replays in omega (arith, few, at)

  goes_within : (accepted : List T) (s : Ring T) (next : ℕ) → IsLatest accepted s → oldest_of s ≤ next → Reaches s.next s.values.capacity (Some next)
  goes_within accepted s next is low = let oldest = oldest_is accepted s is in let number = is.number in omega (arith, oldest, number, low)

  latest_more : (calls : List (ℕ × Round × Ring T)) (s : Ring T) (pass : ℕ) (r : Round) (t : Ring T) → IsLatest (accepted_in calls) s → Does s r t → IsLatest (accepted_in (calls ++ (pass, r, t) ∷ [])) t
  latest_more calls s pass round.Look t is does = stays calls pass round.Look s t is does refl
  latest_more calls s pass round.Emit t is does =
      let value = does.0 in
      let joins = accepted_more calls (pass, round.Emit, t) ∙ ap (λ (u : Ring T). accepted_in calls ++ accepted_by round.Emit u) does.1 ∙ ap (λ (l : List T). accepted_in calls ++ l) (newest_is (accepted_in calls) s value is) in
      subst (λ l. IsLatest l t) (sym joins) (subst (IsLatest (accepted_in calls ++ value ∷ [])) (sym does.1) (latest_with (accepted_in calls) s value does.2 is))
  latest_more calls s pass (round.Begin place start) t is does =
      stays calls pass (round.Begin place start) (moved place (Some start) s) t (latest_moved (accepted_in calls) s place (Some start) (prefix_within (accepted_in calls) s start is does.1) is) does.0 refl
  latest_more calls s pass (round.Give place number) t is does =
      let low = does.1.0 in
      stays calls pass (round.Give place number) (moved place (Some (number + 1)) s) t (latest_moved (accepted_in calls) s place (Some (number + 1)) (goes_within (accepted_in calls) s (number + 1) is (omega (arith, low))) is) does.0 refl
  latest_more calls s pass (round.Miss place from count) t is does =
      let at = does.1 in
      stays calls pass (round.Miss place from count) (moved place (Some (from + count)) s) t (latest_moved (accepted_in calls) s place (Some (from + count)) (goes_within (accepted_in calls) s (from + count) is (omega (arith, at))) is) does.0 refl
  latest_more calls s pass (round.End place) t is does = stays calls pass (round.End place) (moved place None s) t (latest_moved (accepted_in calls) s place None tt is) does refl
  latest_more calls s pass round.Forget t is does = stays calls pass round.Forget (record s { forgotten = s.next }) t (latest_forgotten (accepted_in calls) s is) does refl

  latest_first : (s : Ring T) → IsFirst s → IsLatest [] s
  latest_first s first = record {
    some_place = first.some_place;
    latest = let none : 0 ≡ 0 - s.values.capacity = omega arith in first.empty ∙ ap (λ (n : ℕ). drop {A = T} n []) none;
    number = first.number;
    replays = first.replays;
    forgotten = let none = first.forgotten in omega (arith, none);
    listed = λ keeps. All-weaker (λ cursor. cursor ≡ None) (Reaches s.next s.values.capacity) (none_reaches s.next s.values.capacity) s.cursors first.nobody;
  }

  -- the ring that these calls left
  pub left_latest : (made : Ring T) (calls : List (ℕ × Round × Ring T)) (ring : Ring T) → After IsFirst Does made calls ring → IsLatest (accepted_in calls) ring
  left_latest _ _ _ (new s first) = latest_first s first
  left_latest _ _ _ (more made calls s pass r t after does) = latest_more calls s pass r t (left_latest made calls s after) does

  -- what is kept under a number is what was accepted under it
  pub value_at : (accepted : List T) (ring : Ring T) (number : ℕ) → IsLatest accepted ring → IsKept ring number → slice_get ring.values.items (number - oldest_of ring) ≡ slice_get accepted number
  value_at accepted ring number is kept =
      let from = oldest_is accepted ring is in
      let low = kept.0 in
      let sum : (length accepted - ring.values.capacity) + (number - oldest_of ring) ≡ number = omega (arith, from, low) in
      ap (λ (l : List T). slice_get l (number - oldest_of ring)) is.latest
      ∙ got_dropped (length accepted - ring.values.capacity) (number - oldest_of ring) accepted
      ∙ ap (slice_get accepted) sum

  -- a subscription begins no later than at the next value
  pub start_within : (accepted : List T) (ring : Ring T) → IsLatest accepted ring → cache_start ring ≤ length accepted
  start_within accepted ring is = let number = is.number in let low = is.forgotten in omega (arith, number, low)
