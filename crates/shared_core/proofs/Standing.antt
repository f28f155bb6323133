-- What contracts see of places that stand over the last values.
use Rattle.std.proofs.Common.{◌≡◌, ℕ, zero, suc, Some, slice_get, ◌+◌, ◌-◌, ◌<◌, ◌≤◌, min, Bool, true, false, cond, ◌&&◌, eqb, ltb, List, [], ◌∷◌, ◌++◌, length, drop, map, set, refl, sym, ap, ◌∙◌, ⊎_elim, arith}
use Rattle.std.proofs.lemmas.Bool.{eq-eqb, ne_eqb, ltb-true, lt-ltb, le-ltb, cases_lt}
use Rattle.std.proofs.lemmas.List.{map-set}
use Rattle.std.proofs.lemmas.List.Elements.{All-cons}
use Rattle.std.proofs.lemmas.Option.{none-some, same_Some}
use Rattle.std.specs.List.{All, list_all}
use Rattle.circular_buffer.specs.Buffer.{keep_last}
use Rattle.shared_core.specs.declared.place.Place.{Place}
use Rattle.shared_core.specs.Places.{IsWithin, HasRoomUntil, shown_place}
use Rattle.shared_core.proofs.Latest.{length-kept_min, kept-min, kept-push, kept-pushed, kept-fewer}

-- fewer than `limit` values are pending
abbrev pub IsBelow : ℕ → ℕ → Place → Type 0
IsBelow limit next p = next - p.position < limit

past-test : (number next kept position : ℕ) → next ≤ number + kept → position ≤ next → ltb number position ≡ ltb (number + min (next - position) kept) next
past-test number next kept position many within =
    ⊎_elim
    (λ (past : number < position). lt-ltb number position past ∙ sym (lt-ltb (number + min (next - position) kept) next (omega (arith, past, within))))
    (λ (ahead : position ≤ number). le-ltb number position ahead ∙ sym (le-ltb (number + min (next - position) kept) next (omega (arith, ahead, within, many))))
    (cases_lt number position)

room-test : (limit next kept position : ℕ) → limit ≤ next → position ≤ next → min (next - position) limit ≤ kept
    → ltb (next - limit) position ≡ ltb (min (next - position) kept) limit
room-test limit next kept position many within fits =
    ⊎_elim
    (λ (past : next - limit < position). lt-ltb (next - limit) position past ∙ sym (lt-ltb (min (next - position) kept) limit (omega (arith, past, within, many))))
    (λ (ahead : position ≤ next - limit). le-ltb (next - limit) position ahead ∙ sym (le-ltb (min (next - position) kept) limit (omega (arith, ahead, within, many, fits))))
    (cases_lt (next - limit) position)

and_parts : (a b : Bool) → (a && b) ≡ true → (a ≡ true) × (b ≡ true)
and_parts true b h = (refl, h)
and_parts false b h = absurd (cc)

and_false : (a : Bool) → (a && false) ≡ false
and_false true = refl
and_false false = refl

module _ {T : Type 0} (next : ℕ) (values : List T) where
  -- how many values a place has pending
  abbrev pub pending_of : Place → ℕ
  pending_of p = min (next - p.position) (length values)

  abbrev pub AreWithin : ℕ → List Place → Type 0
  AreWithin limit places = All (IsWithin next limit (length values)) places

  pub length-pending_of : (p : Place) → length (keep_last (next - p.position) values) ≡ pending_of p
  length-pending_of p = length-kept_min (next - p.position) values

  -- a test of where each place stands, over what contracts see
  tests-shown : (test : Place → Bool) (seen : ℕ → Bool) (limit : ℕ) (places : List Place) → AreWithin limit places
      → ((p : Place) → IsWithin next limit (length values) p → test p ≡ seen (pending_of p))
      → list_all test places ≡ list_all (λ e. seen (length e.1)) (map (shown_place next values) places)
  tests-shown test seen limit [] within same = refl
  tests-shown test seen limit (p ∷ places) within same =
      let here : IsWithin next limit (length values) p = within 0 p (omega arith) in
      ap (λ b. b && list_all test places) (same p here ∙ ap seen (sym (length-pending_of p)))
      ∙ ap (λ b. seen (length (keep_last (next - p.position) values)) && b) (tests-shown test seen limit places (λ k d inside. within (suc k) d (omega arith)) same)

  pub past-shown : (number limit : ℕ) (places : List Place) → next ≤ number + length values → AreWithin limit places
      → list_all (λ p. ltb number p.position) places ≡ list_all (λ e. ltb (number + length e.1) next) (map (shown_place next values) places)
  past-shown number limit places many within =
      tests-shown (λ p. ltb number p.position) (λ n. ltb (number + n) next) limit places within (λ p inside. past-test number next (length values) p.position many inside.0)

  -- what isn't kept any more is pending for nobody
  pub past-unkept : (number : ℕ) (places : List Place) → number + length values < next
      → list_all (λ e. ltb (number + length e.1) next) (map (shown_place next values) places) ≡ true
  past-unkept number [] gone = refl
  past-unkept number (p ∷ places) gone =
      let count = length-pending_of p in
      ap (λ b. b && list_all (λ e. ltb (number + length e.1) next) (map (shown_place next values) places))
      (lt-ltb (number + length (keep_last (next - p.position) values)) next (omega (arith, count, gone)))
      ∙ past-unkept number places gone

  pub room-shown : (limit : ℕ) (places : List Place) → limit ≤ next → AreWithin limit places
      → list_all (λ p. ltb (next - limit) p.position) places ≡ list_all (λ e. ltb (length e.1) limit) (map (shown_place next values) places)
  room-shown limit places many within =
      tests-shown (λ p. ltb (next - limit) p.position) (λ n. ltb n limit) limit places within (λ p inside. room-test limit next (length values) p.position many inside.0 inside.1)

  pub room-from_below : (limit : ℕ) (places : List Place) → All (IsBelow limit next) places
      → list_all (λ e. ltb (length e.1) limit) (map (shown_place next values) places) ≡ true
  room-from_below limit [] below = refl
  room-from_below limit (p ∷ places) below =
      let few : IsBelow limit next p = below 0 p (omega arith) in
      ap (λ b. b && list_all (λ e. ltb (length e.1) limit) (map (shown_place next values) places))
      (ap (λ n. ltb n limit) (length-pending_of p) ∙ lt-ltb (pending_of p) limit (omega (arith, few)))
      ∙ room-from_below limit places (λ k d inside. below (suc k) d (omega arith))

  pub below-from_room : (limit : ℕ) (places : List Place) → AreWithin limit places
      → list_all (λ e. ltb (length e.1) limit) (map (shown_place next values) places) ≡ true → All (IsBelow limit next) places
  below-from_room limit [] within room = λ k d inside. absurd (omega arith)
  below-from_room limit (p ∷ places) within room =
      let here : IsWithin next limit (length values) p = within 0 p (omega arith) in
      let parts = and_parts (ltb (length (keep_last (next - p.position) values)) limit) (list_all (λ e. ltb (length e.1) limit) (map (shown_place next values) places)) room in
      let few : pending_of p < limit = ltb-true (pending_of p) limit (ap (λ n. ltb n limit) (sym (length-pending_of p)) ∙ parts.0) in
      All-cons (IsBelow limit next) p places (omega (arith, few, here.1))
      (below-from_room limit places (λ k d inside. within (suc k) d (omega arith)) parts.1)

  -- fewer values were accepted than a subscription may have pending
  pub below-few : (limit : ℕ) (places : List Place) → next < limit → All (IsBelow limit next) places
  below-few limit places few = λ k d inside. omega (arith, few)

  -- while the next number is below that until which each has room
  pub below-until : (limit until : ℕ) (places : List Place) → 0 < limit → next < until → All (HasRoomUntil limit until) places → All (IsBelow limit next) places
  below-until limit until places some early ahead = λ k d inside. let this = ahead k d inside in omega (arith, this, some, early)

  -- one place has all its values pending
  pub full-shown : (limit at : ℕ) (p : Place) (places : List Place) → slice_get places at ≡ Some p → IsWithin next limit (length values) p → limit ≤ next - p.position
      → list_all (λ e. ltb (length e.1) limit) (map (shown_place next values) places) ≡ false
  full-shown limit at p [] gets within full = absurd (none-some _ gets)
  full-shown limit zero p (q ∷ places) gets within full =
      let same : q ≡ p = same_Some q p gets in
      ap (λ b. b && list_all (λ e. ltb (length e.1) limit) (map (shown_place next values) places))
      (ap (λ (r : Place). ltb (length (keep_last (next - r.position) values)) limit) same
      ∙ le-ltb (length (keep_last (next - p.position) values)) limit (omega (arith, length-pending_of p, full, within.1)))
  full-shown limit (suc at) p (q ∷ places) gets within full =
      ap (λ b. ltb (length (keep_last (next - q.position) values)) limit && b) (full-shown limit at p places gets within full)
      ∙ and_false (ltb (length (keep_last (next - q.position) values)) limit)

  -- ---- an acceptance

  accepted-one : (c : ℕ) (v : T) (p : Place) → IsWithin next c (length values) p → IsBelow c next p
      → shown_place (next + 1) (keep_last c (values ++ v ∷ [])) p ≡ (p.number, keep_last (next - p.position) values ++ v ∷ [])
  accepted-one c v p here few =
      let more : (next + 1) - p.position ≡ (next - p.position) + 1 = omega (arith, here.0) in
      ap (λ n. (p.number, keep_last n (keep_last c (values ++ v ∷ [])))) more
      ∙ ap (λ xs. (p.number, xs)) (kept-push (next - p.position) c values v few (omega (arith, few, here.1)))

  pub shown-accepted : (c : ℕ) (v : T) (places : List Place) → AreWithin c places → All (IsBelow c next) places
      → map (shown_place (next + 1) (keep_last c (values ++ v ∷ []))) places ≡ map (λ e. (e.0, e.1 ++ v ∷ [])) (map (shown_place next values) places)
  shown-accepted c v [] within below = refl
  shown-accepted c v (p ∷ places) within below =
      let new = keep_last c (values ++ v ∷ []) in
      ap (λ e. e ∷ map (shown_place (next + 1) new) places) (accepted-one c v p (within 0 p (omega arith)) (below 0 p (omega arith)))
      ∙ ap (λ xs. (p.number, keep_last (next - p.position) values ++ v ∷ []) ∷ xs)
      (shown-accepted c v places (λ k d inside. within (suc k) d (omega arith)) (λ k d inside. below (suc k) d (omega arith)))

  pub within-accepted : (c kept : ℕ) (places : List Place) → kept ≡ (length values + 1) - ((length values + 1) - c)
      → AreWithin c places → All (IsWithin (next + 1) c kept) places
  within-accepted c kept places count within = λ k d inside. let this = within k d inside in (omega (arith, this.0), omega (arith, this.0, this.1, count))

  -- ---- an acceptance before which those with all their values pending lose the oldest one

  abbrev pub without_first : ℕ → ℕ × List T → ℕ × List T
  without_first limit e = cond (eqb (length e.1) limit) (e.0, drop 1 e.1) e

  abbrev with_last : T → ℕ × List T → ℕ × List T
  with_last v e = (e.0, e.1 ++ v ∷ [])

  pushed-one : (c : ℕ) (v : T) (p : Place) → 0 < c → length values ≤ c → IsWithin next c (length values) p
      → shown_place (next + 1) (keep_last c (values ++ v ∷ [])) p ≡ with_last v (without_first c (shown_place next values p))
  pushed-one c v p some fits here =
      let n = next - p.position in
      let old = keep_last n values in
      let count = length-pending_of p in
      ⊎_elim
      (λ (few : n < c).
      let short : eqb (length old) c ≡ false = ne_eqb (length old) c (λ all. omega (arith, count, all, few)) in
      accepted-one c v p here few
      ∙ ap (λ b. with_last v (cond b (p.number, drop 1 old) (p.number, old))) (sym short))
      (λ (over : c ≤ n).
      let full : length values ≡ c = omega (arith, over, here.1, fits) in
      let all : eqb (length old) c ≡ true = eq-eqb (length old) c (omega (arith, count, full, over)) in
      let more : (next + 1) - p.position ≡ n + 1 = omega (arith, here.0) in
      ap (λ k. (p.number, keep_last k (keep_last c (values ++ v ∷ [])))) more
      ∙ ap (λ xs. (p.number, xs)) (kept-pushed n c values v some full over)
      ∙ ap (λ b. with_last v (cond b (p.number, drop 1 old) (p.number, old))) (sym all))
      (cases_lt n c)

  pub shown-pushed : (c : ℕ) (v : T) (places : List Place) → 0 < c → length values ≤ c → AreWithin c places
      → map (shown_place (next + 1) (keep_last c (values ++ v ∷ []))) places
      ≡ map (λ e. (e.0, e.1 ++ v ∷ [])) (map (without_first c) (map (shown_place next values) places))
  shown-pushed c v [] some fits within = refl
  shown-pushed c v (p ∷ places) some fits within =
      let new = keep_last c (values ++ v ∷ []) in
      ap (λ e. e ∷ map (shown_place (next + 1) new) places) (pushed-one c v p some fits (within 0 p (omega arith)))
      ∙ ap (λ xs. with_last v (without_first c (shown_place next values p)) ∷ xs) (shown-pushed c v places some fits (λ k d inside. within (suc k) d (omega arith)))

  -- ---- a receipt

  -- a place once the value at this index was received, where `oldest` is the number of the first one
  abbrev pub received_at : ℕ → ℕ → Place → Place
  received_at oldest index p = record p { position = (oldest + index) + 1 }

  pub shown-received : (at oldest index : ℕ) (p : Place) (places : List Place) → length values ≤ next → p.position ≤ next
      → oldest ≡ next - length values → index ≡ p.position - oldest → index < length values
      → map (shown_place next values) (set places at (received_at oldest index p))
      ≡ set (map (shown_place next values) places) at (p.number, drop 1 (keep_last (next - p.position) values))
  shown-received at oldest index p places kept inside first is some =
      let fewer : next - ((oldest + index) + 1) ≡ (length values - index) - 1 = omega (arith, kept, first, some) in
      map-set (shown_place next values) places at (received_at oldest index p)
      ∙ ap (λ n. set (map (shown_place next values) places) at (p.number, keep_last n values)) fewer
      ∙ ap (λ xs. set (map (shown_place next values) places) at (p.number, xs))
      (kept-fewer (length values - index) values (omega (arith, some)) (omega arith)
      ∙ ap (drop 1) (kept-min (next - p.position) (length values - index) values (omega (arith, kept, inside, first, is, some))))
