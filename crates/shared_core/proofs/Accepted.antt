-- What an acceptance and a loss make of what contracts see, and what contracts see of room.
use Rattle.std.proofs.Common.{◌≡◌, ℕ, zero, suc, ◌+◌, ◌-◌, ◌<◌, ◌≤◌, Bool, true, false, not, cond, ◌&&◌, ◌||◌, eqb, ltb, List, [], ◌∷◌, ◌++◌, length, drop, map, refl, sym, ap, ◌∙◌, ⊎_elim, arith, length-append, length-drop}
use Rattle.std.proofs.Math.ListN.{length-map}
use Rattle.std.proofs.lemmas.List.{map-append, drop-drop}
use Rattle.std.proofs.lemmas.Bool.{eqb-true, lt-ltb, le-ltb, cases_lt}
use Rattle.std.specs.List.{AllByRecursion, list_all, range_with_len}
use Rattle.shared_core.specs.Flow.{cache_start, State, Subscription, accept, lose_oldest, contains, pending, pending_values, values, cache, number, capacity, places, has_room, lost_next}
use Rattle.shared_core.specs.Calls.{is_done}
use Rattle.shared_core.specs.Shown.{live_from, rests_from, seen_of}
use Rattle.shared_core.specs.Accepting.{IsSound, with_accepted, without_oldest_of, room_in, finished_in}
use Rattle.shared_core.specs.Story.{IsTold}
use Rattle.shared_core.proofs.Lists.{range_above, range_within}
use Rattle.shared_core.proofs.Pending.{position, pending-live, pending-closed, length-pending, pending_values-live, IsTold-later, lost_next-some, IsTold-lost}
use Rattle.shared_core.proofs.Steps.{lives, length-pending_values}
use Rattle.shared_core.proofs.Numbered.{passing, failing}
use Rattle.shared_core.proofs.Rests.{rests-lost}

drop-append : {X : Type 0} (n : ℕ) (xs ys : List X) → n ≤ length xs → drop n (xs ++ ys) ≡ drop n xs ++ ys
drop-append zero xs ys within = refl
drop-append (suc n) [] ys within = absurd (omega arith)
drop-append (suc n) (x ∷ xs) ys within = drop-append n xs ys (omega arith)

abbrev lose_at : {T : Type 0} → ℕ → ℕ → Subscription T → Subscription T
lose_at total limit s = cond (s.live && eqb (length (pending total s)) limit) (lost_next total s) s

-- an index is pending where fewer values are left out than it counts
pending_from : (total i n : ℕ) → i < total → n ≤ total → not (contains (range_with_len (total - n) n) i) ≡ ltb (i + n) total
pending_from total i n within few =
    ⊎_elim
    (λ (below : i < total - n). ap not (range_above (total - n) n i below) ∙ sym (lt-ltb (i + n) total (omega arith)))
    (λ (above : total - n ≤ i). ap not (range_within (total - n) n i above (omega arith)) ∙ sym (le-ltb (i + n) total (omega arith)))
    (cases_lt i (total - n))

module _ {T : Type 0} where
  length-values : (accepted : List (ℕ × T)) → length (values accepted) ≡ length accepted
  length-values accepted = length-map accepted (λ e. e.1)

  -- one more value is pending
  pending_values-accepted : (accepted : List (ℕ × T)) (emitter : ℕ) (v : T) (s : Subscription T) → IsTold (length accepted) s → s.live ≡ true
      → pending_values (accepted ++ (emitter, v) ∷ []) s ≡ pending_values accepted s ++ v ∷ []
  pending_values-accepted accepted emitter v s told live =
      let longer : length accepted ≤ length (accepted ++ (emitter, v) ∷ []) = omega (arith, length-append accepted ((emitter, v) ∷ [])) in
      pending_values-live (accepted ++ (emitter, v) ∷ []) s (IsTold-later (length accepted) _ s longer told) live
      ∙ ap (drop (position s)) (map-append (λ (e : ℕ × T). e.1) accepted ((emitter, v) ∷ []))
      ∙ drop-append (position s) (values accepted) (v ∷ []) (omega (arith, told.within, length-values accepted))
      ∙ ap (λ ps. ps ++ v ∷ []) (sym (pending_values-live accepted s told live))

  live_from-accepted : (accepted : List (ℕ × T)) (emitter : ℕ) (v : T) (n : ℕ) (subscriptions : List (Subscription T)) → AllByRecursion (IsTold (length accepted)) subscriptions
      → live_from (accepted ++ (emitter, v) ∷ []) n subscriptions ≡ map (λ e. (e.0, e.1 ++ v ∷ [])) (live_from accepted n subscriptions)
  live_from-accepted accepted emitter v n [] told = refl
  live_from-accepted accepted emitter v n (s ∷ rest) told =
      let later = live_from-accepted accepted emitter v (n + 1) rest told.1 in
      let longer = accepted ++ (emitter, v) ∷ [] in
      elim s.live as (λ b. s.live ≡ b → cond b ((n, pending_values longer s) ∷ live_from longer (n + 1) rest) (live_from longer (n + 1) rest)
      ≡ map (λ e. (e.0, e.1 ++ v ∷ [])) (cond b ((n, pending_values accepted s) ∷ live_from accepted (n + 1) rest) (live_from accepted (n + 1) rest))) [
        | true ↦ λ live.
            ap (λ ps. (n, ps) ∷ live_from longer (n + 1) rest) (pending_values-accepted accepted emitter v s told.0 live)
            ∙ ap (λ xs. (n, pending_values accepted s ++ v ∷ []) ∷ xs) later
        | false ↦ λ _. later
      ] refl

  cache-accepted : (emitter : ℕ) (v : T) (M : State T) → IsSound M → cache (accept emitter v M) ≡ drop ((length (cache M) + 1) - M.parameters.replay) (cache M ++ v ∷ [])
  cache-accepted emitter v M sound =
      let all = values M.accepted in
      let start = cache_start M in
      let count : length (cache M) ≡ length M.accepted - start = length-drop start all ∙ ap (λ n. n - start) (length-values M.accepted) in
      let more : length (M.accepted ++ (emitter, v) ∷ []) ≡ length M.accepted + 1 = length-append M.accepted ((emitter, v) ∷ []) in
      let from : cache_start (accept emitter v M) ≡ start + ((length (cache M) + 1) - M.parameters.replay) = omega (arith, more, count, sound.reset) in
      ap (λ i. drop i (values (M.accepted ++ (emitter, v) ∷ []))) from
      ∙ ap (drop (start + ((length (cache M) + 1) - M.parameters.replay))) (map-append (λ (e : ℕ × T). e.1) M.accepted ((emitter, v) ∷ []))
      ∙ sym (drop-drop ((length (cache M) + 1) - M.parameters.replay) start (all ++ v ∷ []))
      ∙ ap (drop ((length (cache M) + 1) - M.parameters.replay)) (drop-append start all (v ∷ []) (omega (arith, sound.reset, length-values M.accepted)))

  pub seen-accept : (emitter : ℕ) (v : T) (M : State T) → IsSound M → seen_of (accept emitter v M) ≡ with_accepted v (seen_of M)
  unfolding seen_of
  seen-accept emitter v M sound =
      let more : number M (length (M.accepted ++ (emitter, v) ∷ [])) ≡ number M (length M.accepted) + 1 = omega (arith, length-append M.accepted ((emitter, v) ∷ [])) in
      ap (λ live. record (seen_of M) { next_number = number M (length (M.accepted ++ (emitter, v) ∷ [])); cache = cache (accept emitter v M); live = live })
      (live_from-accepted M.accepted emitter v M.parameters.first M.subscriptions sound.told)
      ∙ ap (λ kept. record (with_accepted v (seen_of M)) { next_number = number M (length (M.accepted ++ (emitter, v) ∷ [])); cache = kept }) (cache-accepted emitter v M sound)
      ∙ ap (λ n. record (with_accepted v (seen_of M)) { next_number = n }) more

  -- a test of each subscription that a closed one passes, as contracts see it
  all_live : (test : Subscription T → Bool) (seen : List T → Bool) (accepted : List (ℕ × T)) → ((s : Subscription T) → s.live ≡ false → test s ≡ true)
      → ((s : Subscription T) → IsTold (length accepted) s → s.live ≡ true → test s ≡ seen (pending_values accepted s))
      → (n : ℕ) (subscriptions : List (Subscription T)) → AllByRecursion (IsTold (length accepted)) subscriptions
      → list_all test subscriptions ≡ list_all (λ e. seen e.1) (live_from accepted n subscriptions)
  all_live test seen accepted closed open_ones n [] told = refl
  all_live test seen accepted closed open_ones n (s ∷ rest) told =
      let later = all_live test seen accepted closed open_ones (n + 1) rest told.1 in
      elim s.live as (λ b. s.live ≡ b → (test s && list_all test rest) ≡ list_all (λ e. seen e.1) (cond b ((n, pending_values accepted s) ∷ live_from accepted (n + 1) rest) (live_from accepted (n + 1) rest))) [
        | true ↦ λ live. ap (λ b. b && list_all test rest) (open_ones s told.0 live) ∙ ap (λ b. seen (pending_values accepted s) && b) later
        | false ↦ λ ended. ap (λ b. b && list_all test rest) (closed s ended) ∙ later
      ] refl

  pub has_room-seen : (M : State T) → IsSound M → has_room M ≡ room_in (seen_of M)
  unfolding has_room seen_of
  has_room-seen M sound =
      let p = places M.parameters in
      all_live (λ s. ltb (length (pending (length M.accepted) s)) p) (λ ps. ltb (length ps) p) M.accepted
      (λ s closed. ap (λ (ps : List ℕ). ltb (length ps) p) (pending-closed (length M.accepted) s closed) ∙ lt-ltb 0 p (omega arith))
      (λ s told live. ap (λ k. ltb k p) (length-pending_values M.accepted s told live))
      M.parameters.first M.subscriptions sound.told

  finished_one : (accepted : List (ℕ × T)) (i : ℕ) (s : Subscription T) → i < length accepted → IsTold (length accepted) s → s.live ≡ true
      → not (contains (pending (length accepted) s) i) ≡ ltb (i + length (pending_values accepted s)) (length accepted)
  finished_one accepted i s within told live =
      let total = length accepted in
      let n = total - position s in
      let count : length (pending_values accepted s) ≡ n = sym (length-pending_values accepted s told live) ∙ length-pending total s told live in
      let from : position s ≡ total - n = omega (arith, told.within) in
      ap (λ ps. not (contains ps i)) (pending-live total s told live) ∙ ap (λ k. not (contains (range_with_len k n) i)) from
      ∙ pending_from total i n within (omega arith) ∙ ap (λ k. ltb (i + k) total) (sym count)

  pub finished-seen : (M : State T) (i : ℕ) → IsSound M → M.parameters.first + i < (seen_of M).next_number → is_done M i ≡ finished_in i (seen_of M)
  unfolding seen_of
  finished-seen M i sound within =
      let total = length M.accepted in
      let same : (M.parameters.first + total) - M.parameters.first ≡ total = omega arith in
      ap (λ b. not (eqb (capacity M.parameters) 0) || b)
      (all_live (λ s. not (contains (pending total s) i)) (λ ps. ltb (i + length ps) total) M.accepted
      (λ s closed. ap (λ (ps : List ℕ). not (contains ps i)) (pending-closed total s closed))
      (λ s told live. finished_one M.accepted i s (omega arith) told live)
      M.parameters.first M.subscriptions sound.told
      ∙ ap (λ k. list_all (λ e. ltb (i + length e.1) k) (live_from M.accepted M.parameters.first M.subscriptions)) (sym same))

  -- a loss, as contracts see it
  lost_values : (accepted : List (ℕ × T)) (s : Subscription T) → IsTold (length accepted) s → s.live ≡ true → 0 < length (pending (length accepted) s)
      → (pending_values accepted (lost_next (length accepted) s) ≡ drop 1 (pending_values accepted s)) × ((lost_next (length accepted) s).live ≡ true)
  lost_values accepted s told live some =
      let below : position s < length accepted = omega (arith, length-pending (length accepted) s told live) in
      let next : Subscription T = record s { lost = s.lost ++ position s ∷ [] } in
      let is_next : lost_next (length accepted) s ≡ next = lost_next-some (length accepted) s told live below in
      let further : position next ≡ position s + 1 = omega (arith, length-append s.lost (position s ∷ [])) in (
        ap (pending_values accepted) is_next ∙ pending_values-live accepted next (IsTold-lost (length accepted) s told below) live
            ∙ ap (λ i. drop i (values accepted)) further ∙ sym (drop-drop 1 (position s) (values accepted)) ∙ ap (drop 1) (sym (pending_values-live accepted s told live)),
        ap (λ (t : Subscription T). t.live) is_next ∙ live,
      )

  abbrev without_first : ℕ → ℕ × List T → ℕ × List T
  without_first limit e = cond (eqb (length e.1) limit) (e.0, drop 1 e.1) e

  live_from-lost : (limit : ℕ) (accepted : List (ℕ × T)) (n : ℕ) (subscriptions : List (Subscription T)) → 0 < limit → AllByRecursion (IsTold (length accepted)) subscriptions
      → live_from accepted n (map (lose_at (length accepted) limit) subscriptions) ≡ map (without_first limit) (live_from accepted n subscriptions)
  live_from-lost limit accepted n [] some told = refl
  live_from-lost limit accepted n (s ∷ rest) some told =
      let total = length accepted in
      let later = live_from-lost limit accepted (n + 1) rest some told.1 in
      let lost_rest = map (lose_at total limit) rest in
      let here = lose_at total limit s in
      let first = live_from accepted n (s ∷ rest) in
      elim s.live as (λ b. s.live ≡ b → live_from accepted n (here ∷ lost_rest) ≡ map (without_first limit) (live_from accepted n (s ∷ rest))) [
        | true ↦ λ live.
            let lengths = length-pending_values accepted s told.0 live in
            let entry = passing lives (pending_values accepted) n s rest live in
            elim (eqb (length (pending total s)) limit) as (λ b. eqb (length (pending total s)) limit ≡ b → live_from accepted n (here ∷ lost_rest) ≡ map (without_first limit) (live_from accepted n (s ∷ rest))) [
              | true ↦ λ full.
                  let is : here ≡ lost_next total s = ap (λ b. cond (b && eqb (length (pending total s)) limit) (lost_next total s) s) live ∙ ap (λ b. cond b (lost_next total s) s) full in
                  let lost = lost_values accepted s told.0 live (omega (arith, eqb-true (length (pending total s)) limit full)) in
                  let same : eqb (length (pending_values accepted s)) limit ≡ true = ap (λ k. eqb k limit) (sym lengths) ∙ full in
                  ap (λ t. live_from accepted n (t ∷ lost_rest)) is
                  ∙ passing lives (pending_values accepted) n (lost_next total s) lost_rest lost.1
                  ∙ ap (λ ps. (n, ps) ∷ live_from accepted (n + 1) lost_rest) lost.0
                  ∙ ap (λ xs. (n, drop 1 (pending_values accepted s)) ∷ xs) later
                  ∙ ap (λ b. cond b (n, drop 1 (pending_values accepted s)) (n, pending_values accepted s) ∷ map (without_first limit) (live_from accepted (n + 1) rest)) (sym same)
                  ∙ ap (map (without_first limit)) (sym entry)
              | false ↦ λ not_full.
                  let is : here ≡ s = ap (λ b. cond (b && eqb (length (pending total s)) limit) (lost_next total s) s) live ∙ ap (λ b. cond b (lost_next total s) s) not_full in
                  let same : eqb (length (pending_values accepted s)) limit ≡ false = ap (λ k. eqb k limit) (sym lengths) ∙ not_full in
                  ap (λ t. live_from accepted n (t ∷ lost_rest)) is
                  ∙ passing lives (pending_values accepted) n s lost_rest live
                  ∙ ap (λ xs. (n, pending_values accepted s) ∷ xs) later
                  ∙ ap (λ b. cond b (n, drop 1 (pending_values accepted s)) (n, pending_values accepted s) ∷ map (without_first limit) (live_from accepted (n + 1) rest)) (sym same)
                  ∙ ap (map (without_first limit)) (sym entry)
            ] refl
        | false ↦ λ closed.
            let is : here ≡ s = ap (λ b. cond (b && eqb (length (pending total s)) limit) (lost_next total s) s) closed in
            ap (λ t. live_from accepted n (t ∷ lost_rest)) is ∙ failing lives (pending_values accepted) n s lost_rest closed ∙ later ∙ ap (map (without_first limit)) (sym (failing lives (pending_values accepted) n s rest closed))
      ] refl

  pub seen-lose_oldest : (M : State T) → IsSound M → 0 < capacity M.parameters → seen_of (lose_oldest M) ≡ without_oldest_of (capacity M.parameters) (seen_of M)
  unfolding seen_of
  seen-lose_oldest M sound some =
      ap (λ live. record (seen_of M) {
        live = live;
        rests = rests_from M.parameters.first (map (lose_at (length M.accepted) (capacity M.parameters)) M.subscriptions);
        subscriptions = length (map (lose_at (length M.accepted) (capacity M.parameters)) M.subscriptions);
      }) (live_from-lost (capacity M.parameters) M.accepted M.parameters.first M.subscriptions some sound.told)
      ∙ ap (λ rests. record (without_oldest_of (capacity M.parameters) (seen_of M)) {
        rests = rests;
        subscriptions = length (map (lose_at (length M.accepted) (capacity M.parameters)) M.subscriptions);
      }) (rests-lost (λ s. s.live && eqb (length (pending (length M.accepted) s)) (capacity M.parameters)) (length M.accepted) M.parameters.first M.subscriptions)
      ∙ ap (λ count. record (without_oldest_of (capacity M.parameters) (seen_of M)) { subscriptions = count }) (length-map M.subscriptions (lose_at (length M.accepted) (capacity M.parameters)))
