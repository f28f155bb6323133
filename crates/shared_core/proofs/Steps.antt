-- What each call makes of what contracts see.
use Rattle.std.proofs.Common.{◌≡◌, ◌≢◌, ℕ, zero, suc, ◌+◌, ◌-◌, ◌<◌, ◌≤◌, ⊎_elim, Bool, true, false, cond, eqb, leb, List, [], ◌∷◌, ◌++◌, length, drop, set, Some, None, slice_get, Result, Ok, Err, refl, sym, ap, ◌∙◌, subst, add-one, arith, length-append, length-drop}
use Rattle.std.proofs.Math.ListN.{length-map}
use Rattle.std.proofs.lemmas.Bool.{leb-true, le-leb, eq-eqb, ne_eqb}
use Rattle.std.specs.List.{list_any, remove}
use Rattle.flow_terms.specs.declared.refusal.Refusal.{Refusal}
use Rattle.flow_terms.specs.declared.refusal.Refusal.TheVariants.{Spent, SubscribersFull}
use Rattle.flow_terms.specs.declared.ids.SubId.{SubId}
use Rattle.flow_terms.specs.declared.answers.Next.TheVariants as next
use Rattle.shared_core.specs.Flow.{cache_start, State, Subscription, empty, rest, greet, greeted, receive, close_at, open_next, settle, change, received_next, pending, pending_values, values, values_at, index, number_limit, cache, live_count}
use Rattle.shared_core.specs.Calls.{Call, step, after, next_value, next_at, next_of, live_one, live_at, if_live, pending_count, pending_count_at, cancel, cancel_at, subscribe_with}
use Rattle.shared_core.specs.Preludes.{left_at, begun_with, IsWithout, EndsGreeting}
use Rattle.shared_core.specs.Shown.{Seen, live_from, rests_from, rest_of, seen_of, Shows}
use Rattle.shared_core.specs.Story.{IsTold}
use Rattle.shared_core.proofs.Greeting.{rest-live, left-live, greeted-live, pending-greeted}
use Rattle.shared_core.proofs.Pending.{position, length-pending, pending_values-live, received_next-some, IsTold-received, opened_with, IsTold-opened}
use Rattle.shared_core.proofs.Numbered.{IsEntry, entry_of, fails_without_entry, numbered-push, numbered-changed, count_numbered}
use Rattle.shared_core.proofs.Rests.{has_rest, rests-received, rests-opened, rest-without, rests-closed_without, rests-closed, rests-greeted, rest_of-shown, fewer_rests}
use Rattle.shared_core.specs.Accepting.{IsSound}
use Rattle.shared_core.proofs.Sound.{sound-receive, sound-close, sound-empty, sound-after, all_at}

pub length-change : {X : Type 0} (k : ℕ) (f : X → X) (xs : List X) → length (change k f xs) ≡ length xs
length-change k f [] = refl
length-change zero f (x ∷ xs) = refl
length-change (suc k) f (x ∷ xs) = ap suc (length-change k f xs)

-- one more is left out
drop-suc : {X : Type 0} (p : ℕ) (xs : List X) → drop (suc p) xs ≡ drop 1 (drop p xs)
drop-suc zero xs = refl
drop-suc (suc p) [] = refl
drop-suc (suc p) (x ∷ xs) = drop-suc p xs

drop-one : {X : Type 0} (p : ℕ) (xs : List X) → drop (p + 1) xs ≡ drop 1 (drop p xs)
drop-one p xs = rw (add-one) (drop-suc p xs)

abbrev pub lives : {T : Type 0} → Subscription T → Bool
lives s = s.live

module _ {T : Type 0} where
  -- one call more
  pub after-push : (calls : List (Call T)) (call : Call T) (M : State T) → after (calls ++ call ∷ []) M ≡ (step call (after calls M)).1
  after-push [] call M = refl
  after-push (first ∷ calls) call M = after-push calls call (step first M).1

  pub shown_sound : {seen : Seen T} {M : State T} → Shows seen M → IsSound M
  shown_sound shows = let reached = shows.reached in subst IsSound (sym reached.2) (sound-after reached.1 (empty reached.0) (sound-empty reached.0))

  -- a call leaves a state that is reached too
  pub shown_after : {seen : Seen T} {M : State T} (call : Call T) (new : Seen T) → Shows seen M → new ≡ seen_of (step call M).1 → Shows new (step call M).1
  shown_after {M = M} call new shows same = record {
    reached = (shows.reached.0, shows.reached.1 ++ call ∷ [], ap (λ N. (step call N).1) shows.reached.2 ∙ sym (after-push shows.reached.1 call (empty shows.reached.0)));
    same = same;
  }

  -- ---- numbers

  pub index-low : (M : State T) (k : ℕ) → index M (M.parameters.first + k) ≡ Some k
  index-low M k =
      let low : leb M.parameters.first (M.parameters.first + k) ≡ true = le-leb M.parameters.first (M.parameters.first + k) (omega arith) in
      let back : (M.parameters.first + k) - M.parameters.first ≡ k = omega arith in
      rw (low, back) refl

  -- ---- the next value

  -- where no entry has the number, no live subscription has it
  live_at-none : (M : State T) (n : ℕ) → M.parameters.first ≤ n → list_any (λ e. eqb e.0 n) (live_from M.accepted M.parameters.first M.subscriptions) ≡ false → live_at M.subscriptions (Some (n - M.parameters.first)) ≡ None
  live_at-none M n low missing =
      let k = n - M.parameters.first in
      elim (slice_get M.subscriptions k) as (λ o. slice_get M.subscriptions k ≡ o → if_live k o ≡ None) [
        | None ↦ λ _. refl
        | Some t ↦ λ gets. ap (λ b. cond b (Some (k, t)) None) (fails_without_entry lives (pending_values M.accepted) M.parameters.first n M.subscriptions low missing t gets)
      ] refl

  live_one-at : (M : State T) (n k : ℕ) (s : Subscription T) → n ≡ M.parameters.first + k → slice_get M.subscriptions k ≡ Some s → s.live ≡ true → live_one M n ≡ Some (k, s)
  live_one-at M n k s named gets live =
      ap (λ m. live_at M.subscriptions (index M m)) named ∙ ap (live_at M.subscriptions) (index-low M k) ∙ ap (if_live k) gets ∙ ap (λ b. cond b (Some (k, s)) None) live

  pub live_one-entry : (M : State T) {at n : ℕ} {pending : List T} (e : IsEntry lives (pending_values M.accepted) M.parameters.first M.subscriptions at n pending) → live_one M n ≡ Some (e.k, e.x)
  live_one-entry M {n = n} e = live_one-at M n e.k e.x e.is_number e.gets e.passes

  pub live_one-none : (M : State T) (n : ℕ) → list_any (λ e. eqb e.0 n) (live_from M.accepted M.parameters.first M.subscriptions) ≡ false → live_one M n ≡ None
  live_one-none M n missing =
      elim (leb M.parameters.first n) as (λ b. leb M.parameters.first n ≡ b → live_at M.subscriptions (cond b (Some (n - M.parameters.first)) None) ≡ None) [
        | true ↦ λ low. live_at-none M n (leb-true M.parameters.first n low) missing
        | false ↦ λ _. refl
      ] refl

  pub next-closed : (M : State T) (n : ℕ) → list_any (λ e. eqb e.0 n) (seen_of M).live ≡ false → next_value n M ≡ (next.Closed, M)
  unfolding next_value seen_of
  next-closed M n missing = ap (λ found. next_at found M) (live_one-none M n missing)

  pub next-nothing : (M : State T) (at n : ℕ) → slice_get (seen_of M).live at ≡ Some (n, []) → IsWithout n (seen_of M).rests → next_value n M ≡ (next.Nothing, M)
  unfolding next_value seen_of
  next-nothing M at n there missing =
      let e = entry_of lives (pending_values M.accepted) M.parameters.first M.subscriptions at n [] there in
      let none = rest-without M.parameters.first n e.k M.subscriptions e.x e.gets e.is_number missing in
      ap (λ found. next_at found M) (live_one-entry M e) ∙ ap (λ vs. next_of e.k vs (pending_values M.accepted e.x) M) none ∙ ap (λ ps. next_of e.k [] ps M) (sym e.shows)

  -- what is left of its prelude is given first, and nothing is settled
  seen-greet : (k : ℕ) (M : State T) → seen_of (greet k M) ≡ record (seen_of M) { rests = rests_from M.parameters.first (change k greeted M.subscriptions) }
  unfolding seen_of
  seen-greet k M =
      ap (λ live. record (seen_of M) { live = live; rests = rests_from M.parameters.first (change k greeted M.subscriptions); subscriptions = length (change k greeted M.subscriptions) })
      (numbered-changed lives (pending_values M.accepted) greeted (λ s. greeted-live s) (λ s. ap (values_at (values M.accepted)) (pending-greeted (length M.accepted) s)) M.parameters.first k M.subscriptions)
      ∙ ap (λ count. record (seen_of M) { rests = rests_from M.parameters.first (change k greeted M.subscriptions); subscriptions = count }) (length-change k greeted M.subscriptions)

  pub next-greets : (M : State T) (at n : ℕ) (v : T) (more : List T) → slice_get (seen_of M).rests at ≡ Some (n, v ∷ more)
      → ((next_value n M).0 ≡ next.Value v) × (seen_of (next_value n M).1 ≡ record (seen_of M) { rests = left_at at n more (seen_of M).rests })
  unfolding next_value seen_of
  next-greets M at n v more there =
      let e = entry_of has_rest rest M.parameters.first M.subscriptions at n (v ∷ more) there in
      let live = left-live e.x v more (sym e.shows) in
      let is : next_value n M ≡ (next.Value v, greet e.k M) =
      ap (λ found. next_at found M) (live_one-at M n e.k e.x e.is_number e.gets live) ∙ ap (λ vs. next_of e.k vs (pending_values M.accepted e.x) M) (sym e.shows) in (
        ap (λ (a : next.the_data T × State T). a.0) is,
        ap (λ (a : next.the_data T × State T). seen_of a.1) is ∙ seen-greet e.k M
            ∙ ap (λ rests. record (seen_of M) { rests = rests }) (rests-greeted M.parameters.first M.subscriptions at n v more e),
      )

  -- what is pending once the first of the pending values was received
  pending_left : (accepted : List (ℕ × T)) (s : Subscription T) (v : T) (later : List T) → IsTold (length accepted) s → s.live ≡ true → rest s ≡ [] → v ∷ later ≡ pending_values accepted s
      → (pending_values accepted (received_next (length accepted) s) ≡ later) × ((received_next (length accepted) s).live ≡ true)
  pending_left accepted s v later told live none shows =
      let p = position s in
      let shown : v ∷ later ≡ drop p (values accepted) = shows ∙ pending_values-live accepted s told live in
      let below : p < length accepted = omega (arith, ap length shown, length-drop p (values accepted), length-map accepted (λ e. e.1)) in
      let next : Subscription T = record s { received = s.received ++ p ∷ [] } in
      let is_next : received_next (length accepted) s ≡ next = received_next-some (length accepted) s told live none below in
      let further : position next ≡ p + 1 = omega (arith, length-append s.received (p ∷ [])) in
      let left = pending_values-live accepted next (IsTold-received (length accepted) s told (sym (rest-live s live) ∙ none) below) live in (
        ap (pending_values accepted) is_next ∙ left ∙ ap (λ i. drop i (values accepted)) further ∙ drop-one p (values accepted) ∙ ap (drop 1) (sym shown),
        ap (λ (t : Subscription T). t.live) is_next ∙ live,
      )

  -- contracts see a receipt by the entries of the live ones alone
  seen-receive : (k : ℕ) (M : State T) → seen_of (receive k M) ≡ record (seen_of M) { live = live_from M.accepted M.parameters.first (change k (received_next (length M.accepted)) M.subscriptions) }
  unfolding seen_of
  seen-receive k M =
      ap (λ count. record (seen_of M) {
        live = live_from M.accepted M.parameters.first (change k (received_next (length M.accepted)) M.subscriptions);
        rests = rests_from M.parameters.first (change k (received_next (length M.accepted)) M.subscriptions);
        subscriptions = count;
      }) (length-change k (received_next (length M.accepted)) M.subscriptions)
      ∙ ap (λ rests. record (seen_of M) {
        live = live_from M.accepted M.parameters.first (change k (received_next (length M.accepted)) M.subscriptions);
        rests = rests;
      }) (rests-received (length M.accepted) M.parameters.first k M.subscriptions)

  -- a state whose settling is what the call leaves
  pub record Leads {R : Type 0} (call : R × State T) (answer : R) (shown : Seen T) : Type 0 where
    pub state : State T
    pub sound : IsSound state
    pub is : call ≡ (answer, settle state)
    pub shows : shown ≡ seen_of state

  pub next-some : (M : State T) (at n : ℕ) (v : T) (later : List T) → IsSound M → slice_get (seen_of M).live at ≡ Some (n, v ∷ later) → IsWithout n (seen_of M).rests
      → Leads (next_value n M) (next.Value v) (record (seen_of M) { live = set (seen_of M).live at (n, later) })
  unfolding next_value seen_of
  next-some M at n v later sound there missing =
      let e = entry_of lives (pending_values M.accepted) M.parameters.first M.subscriptions at n (v ∷ later) there in
      let none = rest-without M.parameters.first n e.k M.subscriptions e.x e.gets e.is_number missing in
      let told = all_at (IsTold (length M.accepted)) M.subscriptions e.k e.x sound.told e.gets in
      let after = pending_left M.accepted e.x v later told e.passes none e.shows in
      let moved = e.kept (received_next (length M.accepted)) after.1 ∙ ap (λ ps. set (live_from M.accepted M.parameters.first M.subscriptions) at (n, ps)) after.0 in
      record {
        state = receive e.k M;
        sound = sound-receive e.k M sound;
        is =
            ap (λ found. next_at found M) (live_one-entry M e) ∙ ap (λ vs. next_of e.k vs (pending_values M.accepted e.x) M) none
            ∙ ap (λ ps. next_of e.k [] ps M) (sym e.shows);
        shows = sym (seen-receive e.k M ∙ ap (λ live. record (seen_of M) { live = live }) moved);
      }

  -- ---- the count of what is pending

  pub pending_count-closed : (M : State T) (n : ℕ) → list_any (λ e. eqb e.0 n) (seen_of M).live ≡ false → pending_count n M ≡ 0
  unfolding pending_count seen_of
  pending_count-closed M n missing = ap (λ found. pending_count_at found M) (live_one-none M n missing)

  pub length-pending_values : (accepted : List (ℕ × T)) (s : Subscription T) → IsTold (length accepted) s → s.live ≡ true → length (pending (length accepted) s) ≡ length (pending_values accepted s)
  length-pending_values accepted s told live =
      omega (arith, length-pending (length accepted) s told live, ap length (pending_values-live accepted s told live), length-drop (position s) (values accepted), length-map accepted (λ e. e.1))

  pub pending_count-some : (M : State T) (at n : ℕ) (ps : List T) → IsSound M → slice_get (seen_of M).live at ≡ Some (n, ps) → pending_count n M ≡ length (rest_of n (seen_of M).rests) + length ps
  unfolding pending_count seen_of
  pending_count-some M at n ps sound there =
      let e = entry_of lives (pending_values M.accepted) M.parameters.first M.subscriptions at n ps there in
      let told = all_at (IsTold (length M.accepted)) M.subscriptions e.k e.x sound.told e.gets in
      let left : rest_of n (rests_from M.parameters.first M.subscriptions) ≡ rest e.x =
      ap (λ m. rest_of m (rests_from M.parameters.first M.subscriptions)) e.is_number ∙ rest_of-shown M.parameters.first e.k M.subscriptions e.x e.gets in
      ap (λ found. pending_count_at found M) (live_one-entry M e)
      ∙ ap (λ count. length (rest e.x) + count) (length-pending_values M.accepted e.x told e.passes ∙ ap length (sym e.shows))
      ∙ ap (λ (vs : List T). length vs + length ps) (sym left)

  -- ---- the end of a subscription

  pub cancel-closed : (M : State T) (n : ℕ) → list_any (λ e. eqb e.0 n) (seen_of M).live ≡ false → cancel n M ≡ (false, M)
  unfolding cancel seen_of
  cancel-closed M n missing = ap (λ found. cancel_at found M) (live_one-none M n missing)

  seen-close : (k : ℕ) (M : State T) → let closed = change k (λ s. record s { live = false }) M.subscriptions in
      seen_of (close_at k M) ≡ record (seen_of M) { live = live_from M.accepted M.parameters.first closed; rests = rests_from M.parameters.first closed }
  unfolding seen_of
  seen-close k M =
      ap (λ count. record (seen_of M) {
        live = live_from M.accepted M.parameters.first (change k (λ s. record s { live = false }) M.subscriptions);
        rests = rests_from M.parameters.first (change k (λ s. record s { live = false }) M.subscriptions);
        subscriptions = count;
      }) (length-change k (λ s. record s { live = false }) M.subscriptions)

  -- the end of a subscription is the end of its entry among what is left of preludes
  rests-ended : (M : State T) (n k : ℕ) (s : Subscription T) (rests : List (ℕ × List T)) → n ≡ M.parameters.first + k → slice_get M.subscriptions k ≡ Some s → EndsGreeting n (rests_from M.parameters.first M.subscriptions) rests
      → rests_from M.parameters.first (change k (λ s. record s { live = false }) M.subscriptions) ≡ rests
  rests-ended M n k s rests named gets ended =
      let first = M.parameters.first in
      let old = rests_from first M.subscriptions in
      ⊎_elim
      (λ (none : IsWithout n old × (rests ≡ old)).
      rests-closed_without first k M.subscriptions s gets (rest-without first n k M.subscriptions s gets named none.0) ∙ sym none.1)
      (λ (one : (at : ℕ) × (left : List T) × (slice_get old at ≡ Some (n, left)) × (rests ≡ remove old at)).
      let e = entry_of has_rest rest first M.subscriptions one.0 n one.1 one.2 in
      let same : k ≡ e.k = omega (arith, named, e.is_number) in
      ap (λ j. rests_from first (change j (λ s. record s { live = false }) M.subscriptions)) same ∙ rests-closed first M.subscriptions e ∙ sym one.3)
      ended

  pub cancel-some : (M : State T) (at n : ℕ) (ps : List T) (rests : List (ℕ × List T)) → IsSound M → slice_get (seen_of M).live at ≡ Some (n, ps) → EndsGreeting n (seen_of M).rests rests
      → Leads (cancel n M) true (record (seen_of M) { live = remove (seen_of M).live at; rests = rests })
  unfolding cancel seen_of
  cancel-some M at n ps rests sound there ended =
      let e = entry_of lives (pending_values M.accepted) M.parameters.first M.subscriptions at n ps there in
      record {
        state = close_at e.k M;
        sound = sound-close e.k M sound;
        is = ap (λ found. cancel_at found M) (live_one-entry M e);
        shows =
            sym (seen-close e.k M
            ∙ ap (λ live. record (seen_of M) { live = live; rests = rests_from M.parameters.first (change e.k (λ s. record s { live = false }) M.subscriptions) }) (e.removed (λ s. record s { live = false }) refl)
            ∙ ap (λ left. record (seen_of M) { live = remove (seen_of M).live at; rests = left }) (rests-ended M n e.k e.x rests e.is_number e.gets ended));
      }

  -- ---- a new subscription

  pub live_count-seen : (M : State T) → live_count M ≡ length (seen_of M).live
  unfolding live_count seen_of
  live_count-seen M = count_numbered lives (pending_values M.accepted) M.parameters.first M.subscriptions

  -- no more entries of preludes than live subscriptions
  pub fewer_entries : (M : State T) → length (seen_of M).rests ≤ length (seen_of M).live
  unfolding seen_of
  fewer_entries M =
      omega (arith, fewer_rests M.subscriptions, count_numbered has_rest rest M.parameters.first M.subscriptions, count_numbered lives (pending_values M.accepted) M.parameters.first M.subscriptions)

  pub subscribe-spent : (prelude : List T) (M : State T) → (seen_of M).parameters.first + (seen_of M).subscriptions ≡ number_limit → subscribe_with prelude M ≡ (Err Spent, M)
  unfolding subscribe_with seen_of
  subscribe-spent prelude M spent = let yes = eq-eqb (M.parameters.first + length M.subscriptions) number_limit spent in rw yes refl

  pub subscribe-full : (prelude : List T) (M : State T) → (seen_of M).parameters.first + (seen_of M).subscriptions ≢ number_limit → length (seen_of M).live ≡ (seen_of M).parameters.subscribers → subscribe_with prelude M ≡ (Err SubscribersFull, M)
  unfolding subscribe_with seen_of
  subscribe-full prelude M unspent full =
      let no = ne_eqb (M.parameters.first + length M.subscriptions) number_limit unspent in
      let yes = eq-eqb (live_count M) M.parameters.subscribers (live_count-seen M ∙ full) in
      rw (no, yes) refl

  pub subscribe-made : (prelude : List T) (M : State T) → IsSound M → (seen_of M).parameters.first + (seen_of M).subscriptions ≢ number_limit → length (seen_of M).live ≢ (seen_of M).parameters.subscribers
      → ((subscribe_with prelude M).0 ≡ Ok (record { 0 = (seen_of M).parameters.first + (seen_of M).subscriptions }))
      × (seen_of (subscribe_with prelude M).1 ≡ record (seen_of M) {
        live = (seen_of M).live ++ ((seen_of M).parameters.first + (seen_of M).subscriptions, (seen_of M).cache) ∷ [];
        rests = begun_with ((seen_of M).parameters.first + (seen_of M).subscriptions) prelude (seen_of M).rests;
        subscriptions = (seen_of M).subscriptions + 1;
      })
  unfolding subscribe_with seen_of
  subscribe-made prelude M sound unspent space =
      let no = ne_eqb (M.parameters.first + length M.subscriptions) number_limit unspent in
      let below = ne_eqb (live_count M) M.parameters.subscribers (λ full. space (sym (live_count-seen M) ∙ full)) in
      let start = cache_start M in
      let opened : Subscription T = opened_with prelude start in
      let holds : pending_values M.accepted opened ≡ cache M =
      pending_values-live M.accepted opened (IsTold-opened prelude (length M.accepted) start (omega (arith, sound.reset))) refl
      ∙ ap (λ i. drop i (values M.accepted)) (omega arith) in
      let lives = numbered-push lives (pending_values M.accepted) M.parameters.first M.subscriptions opened refl
      ∙ ap (λ ps. live_from M.accepted M.parameters.first M.subscriptions ++ (M.parameters.first + length M.subscriptions, ps) ∷ []) holds in
      let left = rests-opened prelude start M.parameters.first M.subscriptions in
      let is : subscribe_with prelude M ≡ (Ok (record { 0 = M.parameters.first + length M.subscriptions }), open_next prelude M) = rw (no, below) refl in (
        ap (λ (a : Result SubId Refusal × State T). a.0) is,
        ap (λ (a : Result SubId Refusal × State T). seen_of a.1) is
            ∙ ap (λ live. record (seen_of M) { live = live; rests = rests_from M.parameters.first (M.subscriptions ++ opened ∷ []); subscriptions = length (M.subscriptions ++ opened ∷ []) }) lives
            ∙ ap (λ rests. record (seen_of M) {
              live = live_from M.accepted M.parameters.first M.subscriptions ++ (M.parameters.first + length M.subscriptions, cache M) ∷ [];
              rests = rests;
              subscriptions = length (M.subscriptions ++ opened ∷ []);
            }) left
            ∙ ap (λ count. record (seen_of M) {
              live = live_from M.accepted M.parameters.first M.subscriptions ++ (M.parameters.first + length M.subscriptions, cache M) ∷ [];
              rests = begun_with (M.parameters.first + length M.subscriptions) prelude (rests_from M.parameters.first M.subscriptions);
              subscriptions = count;
            }) (length-append M.subscriptions (opened ∷ [])),
      )
