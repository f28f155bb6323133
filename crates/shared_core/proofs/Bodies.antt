-- From what a call does to the places to what it does to the flow.
use Rattle.std.proofs.Common.{◌≡◌, ◌≢◌, Result, Ok, Err, ℕ, ◌+◌, ◌<◌, ◌≤◌, Bool, true, false, eqb, List, [], ◌∷◌, ◌++◌, length, drop, map, set, Some, None, slice_get, refl, sym, ap, ◌∙◌, subst, add-zero, arith}
use Rattle.std.specs.List.{list_any, remove}
use Rattle.std.proofs.Math.ListN.{length-map, drop_of_length-le}
use Rattle.std.proofs.Math.Seq.{drop-nil}
use Rattle.flow_terms.specs.declared.refusal.Refusal.{Refusal}
use Rattle.flow_terms.specs.declared.refusal.Refusal.TheVariants.{Spent, SubscribersFull}
use Rattle.flow_terms.specs.declared.ids.SubId.{SubId}
use Rattle.flow_terms.specs.declared.answers.Next.{Next}
use Rattle.flow_terms.specs.declared.answers.Next.TheVariants as next
use Rattle.shared_core.specs.Ringed.{Ringed, empty_ring}
use Rattle.shared_core.specs.declared.tickets.OutTicket.{OutTicket}
use Rattle.shared_core.specs.declared.tickets.Accepted.{Accepted}
use Rattle.shared_core.specs.declared.tickets.Waiting.{Waiting}
use Rattle.shared_core.specs.Kept.{shown_accepted, shown_waiting}
use Rattle.shared_core.specs.Flow.{cache_start, State, Parameters, empty, number_limit, values, cache, live_count}
use Rattle.shared_core.specs.Calls.{Call, step, next_value, receiving, pending_count, cancel, cancelling, subscribe_with, subscribing, reset, resetting}
use Rattle.shared_core.specs.Preludes.{left_at, begun_with, IsWithout, EndsGreeting}
use Rattle.shared_core.specs.Shown.{Seen, rest_of, seen_of, Shows, Follows, Reads, Leaves}
use Rattle.shared_core.specs.Accepting.{Settles}
use Rattle.shared_core.proofs.Entries.{set-same, none_first, some_first}
use Rattle.shared_core.proofs.Steps.{shown_sound, shown_after, next-closed, next-nothing, next-greets, Leads, next-some, pending_count-closed, pending_count-some, cancel-closed, cancel-some, subscribe-spent, subscribe-full, subscribe-made, fewer_entries, live_count-seen}

module _ {T : Type 0} (old : Seen T) where
  unseen : (M : State T) → Shows old M → (n : ℕ) → list_any (λ e. eqb e.0 n) old.live ≡ false → list_any (λ e. eqb e.0 n) (seen_of M).live ≡ false
  unseen M shows n missing = ap (λ (seen : Seen T). list_any (λ e. eqb e.0 n) seen.live) (sym shows.same) ∙ missing

  pub next_follows-closed : (n : ℕ) → list_any (λ e. eqb e.0 n) old.live ≡ false → Follows (next_value n) old next.Closed old
  next_follows-closed n missing M shows =
      let is = next-closed M n (unseen M shows n missing) in
      (ap (λ (a : Next T × State T). a.0) (sym is), shown_after (receiving n) old shows (shows.same ∙ ap (λ (a : Next T × State T). seen_of a.1) (sym is)))

  -- what is left of preludes
  without_seen : (M : State T) → Shows old M → (n : ℕ) → IsWithout n old.rests → IsWithout n (seen_of M).rests
  without_seen M shows n missing = ap (λ (seen : Seen T). list_any (λ e. eqb e.0 n) seen.rests) (sym shows.same) ∙ missing

  pub next_follows-greeting : (at n : ℕ) (v : T) (more : List T) (new : Seen T) → slice_get old.rests at ≡ Some (n, v ∷ more)
      → new ≡ record old { rests = left_at at n more old.rests } → Follows (next_value n) old (next.Value v) new
  next_follows-greeting at n v more new gets new_is M shows =
      let is = next-greets M at n v more (ap (λ (seen : Seen T). slice_get seen.rests at) (sym shows.same) ∙ gets) in (
        sym is.0,
        shown_after (receiving n) new shows (new_is ∙ ap (λ (seen : Seen T). record seen { rests = left_at at n more seen.rests }) shows.same ∙ sym is.1),
      )

  -- the entry of a live subscription
  entry_at : (M : State T) → Shows old M → (at : ℕ) (e : ℕ × List T) → slice_get old.live at ≡ Some e → slice_get (seen_of M).live at ≡ Some e
  entry_at M shows at e gets = ap (λ (seen : Seen T). slice_get seen.live at) (sym shows.same) ∙ gets

  -- a call that leads to a state, once what it shows was settled
  led_follows : {R : Type 0} (call : Call T) (does : State T → R × State T) (answer : R) (mid new : Seen T) (M : State T) → Shows old M → Settles mid new
      → ((N : State T) → (step call N).1 ≡ (does N).1) → Leads (does M) answer mid → (answer ≡ (does M).0) × Shows new (does M).1
  led_follows call does answer mid new M shows settles steps leads = (
    ap (λ (a : _ × State T). a.0) (sym leads.is),
    subst (Shows new) (steps M)
        (shown_after call new shows (settles leads.state leads.sound leads.shows ∙ ap (λ (a : _ × State T). seen_of a.1) (sym leads.is) ∙ ap seen_of (sym (steps M)))),
  )

  pub next_follows-none : (at n : ℕ) (ps : List T) → slice_get old.live at ≡ Some (n, ps) → IsWithout n old.rests → None ≡ slice_get ps 0
      → Follows (next_value n) old next.Nothing (record old { live = set old.live at (n, drop 1 ps) })
  next_follows-none at n ps gets missing empty M shows =
      let none = none_first ps (sym empty) in
      let there : slice_get old.live at ≡ Some (n, []) = gets ∙ ap (λ qs. Some (n, qs)) none in
      let same : set old.live at (n, drop 1 ps) ≡ old.live = ap (λ qs. set old.live at (n, drop 1 qs)) none ∙ set-same old.live at (n, []) there in
      let is = next-nothing M at n (entry_at M shows at (n, []) there) (without_seen M shows n missing) in (
        ap (λ (a : Next T × State T). a.0) (sym is),
        shown_after (receiving n) (record old { live = set old.live at (n, drop 1 ps) }) shows
            (ap (λ xs. record old { live = xs }) same ∙ shows.same ∙ ap (λ (a : Next T × State T). seen_of a.1) (sym is)),
      )

  pub next_follows-some : (at n : ℕ) (ps : List T) (v : T) (mid new : Seen T) → slice_get old.live at ≡ Some (n, ps) → IsWithout n old.rests → Some v ≡ slice_get ps 0
      → mid ≡ record old { live = set old.live at (n, drop 1 ps) } → Settles mid new → Follows (next_value n) old (next.Value v) new
  next_follows-some at n ps v mid new gets missing some mid_is settles M shows =
      let first : ps ≡ v ∷ drop 1 ps = some_first ps v (sym some) in
      let leads = next-some M at n v (drop 1 ps) (shown_sound shows) (entry_at M shows at (n, ps) gets ∙ ap (λ qs. Some (n, qs)) first)
      (without_seen M shows n missing) in
      let to_mid : mid ≡ record (seen_of M) { live = set (seen_of M).live at (n, drop 1 ps) } =
      mid_is ∙ ap (λ (seen : Seen T). record seen { live = set seen.live at (n, drop 1 ps) }) shows.same in
      led_follows (receiving n) (next_value n) (next.Value v) mid new M shows settles (λ N. refl) (record { state = leads.state; sound = leads.sound; is = leads.is; shows = to_mid ∙ leads.shows })

  pub pending_reads-closed : (n : ℕ) → list_any (λ e. eqb e.0 n) old.live ≡ false → Reads (pending_count n) old 0
  pending_reads-closed n missing M shows = sym (pending_count-closed M n (unseen M shows n missing))

  pub pending_reads : (at n : ℕ) (e : ℕ × List T) → slice_get old.live at ≡ Some e → e.0 ≡ n → Reads (pending_count n) old (length (rest_of n old.rests) + length e.1)
  pending_reads at n e gets numbered M shows =
      ap (λ (seen : Seen T). length (rest_of n seen.rests) + length e.1) shows.same
      ∙ sym (pending_count-some M at n e.1 (shown_sound shows) (entry_at M shows at e gets ∙ ap (λ m. Some (m, e.1)) numbered))

  pub cancel_follows-closed : (n : ℕ) → list_any (λ e. eqb e.0 n) old.live ≡ false → Follows (cancel n) old false old
  cancel_follows-closed n missing M shows =
      let is = cancel-closed M n (unseen M shows n missing) in
      (ap (λ (a : Bool × State T). a.0) (sym is), shown_after (cancelling n) old shows (shows.same ∙ ap (λ (a : Bool × State T). seen_of a.1) (sym is)))

  pub cancel_follows : (at n : ℕ) (e : ℕ × List T) (rests : List (ℕ × List T)) (mid new : Seen T) → slice_get old.live at ≡ Some e → e.0 ≡ n → EndsGreeting n old.rests rests
      → mid ≡ record old { live = remove old.live at; rests = rests } → Settles mid new → Follows (cancel n) old true new
  cancel_follows at n e rests mid new gets is_number ended mid_is settles M shows =
      let leads = cancel-some M at n e.1 rests (shown_sound shows) (entry_at M shows at e gets ∙ ap (λ m. Some (m, e.1)) is_number)
      (subst (λ (seen : Seen T). EndsGreeting n seen.rests rests) shows.same ended) in
      let to_mid : mid ≡ record (seen_of M) { live = remove (seen_of M).live at; rests = rests } =
      mid_is ∙ ap (λ (seen : Seen T). record seen { live = remove seen.live at; rests = rests }) shows.same in
      led_follows (cancelling n) (cancel n) true mid new M shows settles (λ N. refl) (record { state = leads.state; sound = leads.sound; is = leads.is; shows = to_mid ∙ leads.shows })

  pub subscribe_follows-spent : (prelude : List T) → old.parameters.first + old.subscriptions ≡ number_limit → Follows (subscribe_with prelude) old (Err Spent) old
  subscribe_follows-spent prelude spent M shows =
      let is = subscribe-spent prelude M (ap (λ (seen : Seen T). seen.parameters.first + seen.subscriptions) (sym shows.same) ∙ spent) in
      (ap (λ (a : Result SubId Refusal × State T). a.0) (sym is), shown_after (subscribing prelude) old shows (shows.same ∙ ap (λ (a : Result SubId Refusal × State T). seen_of a.1) (sym is)))

  -- what is so of the numbers is so of what contracts see of M
  unspent_seen : (M : State T) → Shows old M → old.parameters.first + old.subscriptions ≢ number_limit → (seen_of M).parameters.first + (seen_of M).subscriptions ≢ number_limit
  unspent_seen M shows unspent spent = unspent (ap (λ (seen : Seen T). seen.parameters.first + seen.subscriptions) shows.same ∙ spent)

  pub subscribe_follows-full : (prelude : List T) → old.parameters.first + old.subscriptions ≢ number_limit → length old.live ≡ old.parameters.subscribers → Follows (subscribe_with prelude) old (Err SubscribersFull) old
  subscribe_follows-full prelude unspent full M shows =
      let is = subscribe-full prelude M (unspent_seen M shows unspent)
      (ap (λ (seen : Seen T). length seen.live) (sym shows.same) ∙ full ∙ ap (λ (seen : Seen T). seen.parameters.subscribers) shows.same) in
      (ap (λ (a : Result SubId Refusal × State T). a.0) (sym is), shown_after (subscribing prelude) old shows (shows.same ∙ ap (λ (a : Result SubId Refusal × State T). seen_of a.1) (sym is)))

  pub subscribe_follows : (prelude : List T) (n limit : ℕ) (rests : List (ℕ × List T)) → n ≡ old.parameters.first + old.subscriptions → n ≢ number_limit → length old.live ≢ old.parameters.subscribers
      → length old.live ≤ old.parameters.subscribers → limit ≡ old.parameters.subscribers → (length old.rests < limit → rests ≡ begun_with n prelude old.rests)
      → Follows (subscribe_with prelude) old (Ok (record { 0 = n })) (record old { live = old.live ++ (n, old.cache) ∷ []; rests = rests; subscriptions = old.subscriptions + 1 })
  subscribe_follows prelude n limit rests is_next unspent space within places begun M shows =
      let fewer : length old.rests ≤ length old.live = subst (λ (seen : Seen T). length seen.rests ≤ length seen.live) (sym shows.same) (fewer_entries M) in
      let is = subscribe-made prelude M (shown_sound shows) (unspent_seen M shows (λ spent. unspent (is_next ∙ spent)))
      (λ full. space (ap (λ (seen : Seen T). length seen.live) shows.same ∙ full ∙ ap (λ (seen : Seen T). seen.parameters.subscribers) (sym shows.same))) in
      let next_number : n ≡ (seen_of M).parameters.first + (seen_of M).subscriptions = is_next ∙ ap (λ (seen : Seen T). seen.parameters.first + seen.subscriptions) shows.same in (
        ap (λ m. Ok (record { 0 = m })) next_number ∙ sym is.0,
        shown_after (subscribing prelude) _ shows
            (ap (λ left. record old { live = old.live ++ (n, old.cache) ∷ []; rests = left; subscriptions = old.subscriptions + 1 }) (begun (omega (arith, fewer, within, places, space)))
            ∙ ap (λ (seen : Seen T). record seen { live = seen.live ++ (n, seen.cache) ∷ []; rests = begun_with n prelude seen.rests; subscriptions = seen.subscriptions + 1 }) shows.same
            ∙ ap (λ m. record (seen_of M) { live = (seen_of M).live ++ (m, (seen_of M).cache) ∷ []; rests = begun_with m prelude (seen_of M).rests; subscriptions = (seen_of M).subscriptions + 1 }) next_number
            ∙ sym is.1),
      )

-- a flow that was just made
pub shows_empty : {T : Type 0} (p : Parameters) (ring : Ringed T) (us : List (OutTicket Accepted)) (ws : List (OutTicket (Waiting T))) (rests : List (ℕ × List T)) → ring ≡ empty_ring p → us ≡ [] → ws ≡ [] → rests ≡ []
    → Shows (record { parameters = p; next_number = ring.next_number; cache = ring.cache; live = ring.live; rests = rests; subscriptions = 0; tickets = 0; out = map shown_accepted us ++ map shown_waiting ws }) (empty p)
unfolding seen_of
shows_empty {T = T} p ring us ws rests no_values no_accepted no_waiting no_rests =
    let start : Seen T = record { parameters = p; next_number = p.first; cache = []; live = []; rests = []; subscriptions = 0; tickets = 0; out = [] } in
    record {
      reached = (p, [], refl);
      same =
          ap (λ (r : Ringed T). record start { next_number = r.next_number; cache = r.cache; live = r.live; rests = rests; out = map shown_accepted us ++ map shown_waiting ws }) no_values
          ∙ ap (λ left. record start { rests = left; out = map shown_accepted us ++ map shown_waiting ws }) no_rests
          ∙ ap (λ xs. record start { out = map shown_accepted xs ++ map shown_waiting ws }) no_accepted
          ∙ ap (λ xs. record start { out = map shown_waiting xs }) no_waiting
          ∙ ap (λ n. record start { next_number = n }) (sym (add-zero p.first))
          ∙ ap (λ xs. record (seen_of (empty {T = T} p)) { cache = xs }) (sym (drop-nil (cache_start (empty {T = T} p))));
    }

module _ {T : Type 0} (old : Seen T) where
  pub reset_leaves : Leaves reset old (record old { cache = [] })
  unfolding seen_of
  reset_leaves M shows =
      let none : cache (reset M) ≡ [] =
      drop_of_length-le (values M.accepted) (omega (arith, length-map M.accepted (λ (e : ℕ × T). e.1))) in
      shown_after resetting _ shows
      (ap (λ (seen : Seen T). record seen { cache = [] }) shows.same ∙ ap (λ xs. record (seen_of M) { cache = xs }) (sym none))

  pub count_reads : Reads live_count old (length old.live)
  count_reads M shows = ap (λ (seen : Seen T). length seen.live) shows.same ∙ sym (live_count-seen M)

  pub cache_shown : (M : State T) → Shows old M → old.cache ≡ cache M
  unfolding seen_of
  cache_shown M shows = ap (λ (seen : Seen T). seen.cache) shows.same
