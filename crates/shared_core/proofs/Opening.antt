-- Each subscription was opened by one of the calls.
use Rattle.std.proofs.Common.{◌≡◌, ℕ, ◌+◌, ◌<◌, ◌⊎◌, inl, inr, ⊎_elim, Bool, true, false, cond, ◌||◌, ◌==◌, List, [], ◌∷◌, length, Option, Some, None, Result, Ok, Err, refl, ap, ◌∙◌, subst, arith, length-append}
use Rattle.std.proofs.Math.ListN.{length-map}
use Rattle.std.proofs.lemmas.Bool.{cases_lt}
use Rattle.flow_terms.specs.declared.refusal.Refusal.{Refusal}
use Rattle.flow_terms.specs.declared.refusal.Refusal.TheVariants.{Spent, SubscribersFull}
use Rattle.flow_terms.specs.declared.ids.SubId.{SubId}
use Rattle.shared_core.specs.Flow.{State, Standing, waits, stands, gone, Subscription, rest, receive, open_next, close_at, greeted, received_next, live_count, number, number_limit, index}
use Rattle.shared_core.specs.Calls.{Fate, enters, pushes_in, handed_over, dropped, held_up, fate, try_by, try_emit, start_by, start_emit, is_done, take_back, ticket_at, poll_at, poll_emit, cancel_emit_at, cancel_emit, subscribe_with, next_of, next_at, next_value, cancel_at, cancel, live_one, numbers_spent, tickets_spent, Call, trying, starting, polling, withdrawing, subscribing, receiving, cancelling, resetting, counting, Reply, to_subscribe, step, after}
use Rattle.shared_core.proofs.Closing.{settled_subscriptions}
use Rattle.shared_core.proofs.Losing.{Once, once_now, once_later}
use Rattle.shared_core.proofs.Steps.{length-change}

module _ {T : Type 0} where
  -- the call opens the subscription at index k, with some prelude
  abbrev pub Opens : ℕ → State T → Call T → Reply T → Type 0
  Opens k M call reply = (prelude : List T) × (call ≡ subscribing prelude) × (reply ≡ to_subscribe (Ok (record { 0 = number M k })))

  abbrev SameCount : State T → State T → Type 0
  SameCount M N = length N.subscriptions ≡ length M.subscriptions

  if_count : {A : Type 0} (M : State T) (b : Bool) (x y : A × State T) → SameCount M x.1 → SameCount M y.1 → SameCount M (cond b x y).1
  if_count M true x y at_true at_false = at_true
  if_count M false x y at_true at_false = at_false

  count_try_by : (f : Fate) (emitter : ℕ) (v : T) (M : State T) → SameCount M (try_by f emitter v M).1
  count_try_by enters emitter v M = refl
  count_try_by pushes_in emitter v M = length-map M.subscriptions _
  count_try_by dropped emitter v M = refl
  count_try_by handed_over emitter v M = refl
  count_try_by held_up emitter v M = refl

  count_start_by : (f : Fate) (emitter : ℕ) (v : T) (M : State T) → SameCount M (start_by f emitter v M).1
  count_start_by enters emitter v M = refl
  count_start_by pushes_in emitter v M = length-map M.subscriptions _
  count_start_by dropped emitter v M = refl
  count_start_by handed_over emitter v M = if_count M _ _ _ refl refl
  count_start_by held_up emitter v M = if_count M _ _ _ refl refl

  count_take_back : (k : Option ℕ) (M : State T) → SameCount M (take_back k M)
  count_take_back None M = refl
  count_take_back (Some k) M = refl

  count_poll_at : (k : Option ℕ) (standing : Standing T) (M : State T) → SameCount M (poll_at k standing M).1
  count_poll_at k (waits emitter v) M = refl
  count_poll_at k (stands i) M = if_count M (is_done M i) _ _ (count_take_back k M) refl
  count_poll_at k gone M = refl

  count_withdraw_at : (k : Option ℕ) (standing : Standing T) (M : State T) → SameCount M (cancel_emit_at k standing M).1
  count_withdraw_at k (waits emitter v) M = count_take_back k M
  count_withdraw_at k (stands i) M = count_take_back k M
  count_withdraw_at k gone M = refl

  count_next_of : (k : ℕ) (vs ps : List T) (M : State T) → SameCount M (next_of k vs ps M).1
  count_next_of k [] [] M = refl
  count_next_of k (v ∷ vs) ps M = length-change k greeted M.subscriptions
  count_next_of k [] (v ∷ ps) M = ap length (settled_subscriptions (receive k M)) ∙ length-change k (received_next (length M.accepted)) M.subscriptions

  count_next_at : (found : Option (ℕ × Subscription T)) (M : State T) → SameCount M (next_at found M).1
  count_next_at None M = refl
  count_next_at (Some (k, s)) M = count_next_of k (rest s) _ M

  count_cancel_at : (found : Option (ℕ × Subscription T)) (M : State T) → SameCount M (cancel_at found M).1
  count_cancel_at None M = refl
  count_cancel_at (Some (k, s)) M = ap length (settled_subscriptions (close_at k M)) ∙ length-change k (λ t. record t { live = false }) M.subscriptions

  -- a call leaves as many subscriptions as there were, or opens the next one
  abbrev Counted : Call T → State T → Reply T → State T → Type 0
  Counted call M reply N = SameCount M N ⊎ (Opens (length M.subscriptions) M call reply × (length N.subscriptions ≡ length M.subscriptions + 1))

  counted_subscribe : (prelude : List T) (M : State T) → Counted (subscribing prelude) M (to_subscribe (subscribe_with prelude M).0) (subscribe_with prelude M).1
  unfolding subscribe_with
  counted_subscribe prelude M =
      let made : Result SubId Refusal × State T = (Ok (record { 0 = number M (length M.subscriptions) }), open_next prelude M) in
      let full : Result SubId Refusal × State T = (Err SubscribersFull, M) in
      let spent : Result SubId Refusal × State T = (Err Spent, M) in
      elim (number M (length M.subscriptions) == number_limit) as (λ b. let x : Result SubId Refusal × State T = cond b spent (cond (live_count M == M.parameters.subscribers) full made) in Counted (subscribing prelude) M (to_subscribe x.0) x.1) [
        | true ↦ inl refl
        | false ↦ elim (live_count M == M.parameters.subscribers) as (λ b. let x : Result SubId Refusal × State T = cond b full made in Counted (subscribing prelude) M (to_subscribe x.0) x.1) [
          | true ↦ inl refl
          | false ↦ inr ((prelude, refl, refl), length-append M.subscriptions _)
        ]
      ]

  counted : (call : Call T) (M : State T) → Counted call M (step call M).0 (step call M).1
  unfolding try_emit start_emit poll_emit cancel_emit next_value cancel
  counted (trying emitter v) M = inl (if_count M (numbers_spent M) (Err Spent, M) (try_by (fate M) emitter v M) refl (count_try_by (fate M) emitter v M))
  counted (starting emitter v) M = inl (if_count M (numbers_spent M || tickets_spent M) (Err Spent, M) (start_by (fate M) emitter v M) refl (count_start_by (fate M) emitter v M))
  counted (polling n) M = inl (count_poll_at (index M n) (ticket_at M.tickets (index M n)) M)
  counted (withdrawing n) M = inl (count_withdraw_at (index M n) (ticket_at M.tickets (index M n)) M)
  counted (subscribing prelude) M = counted_subscribe prelude M
  counted (receiving n) M = inl (count_next_at (live_one M n) M)
  counted (cancelling n) M = inl (count_cancel_at (live_one M n) M)
  counted resetting M = inl refl
  counted counting M = inl refl

  pub opened_once : (calls : List (Call T)) (M : State T) (k : ℕ) → k < length (after calls M).subscriptions → (k < length M.subscriptions) ⊎ Once calls M (Opens k)
  opened_once [] M k within = inl within
  opened_once (call ∷ calls) M k within =
      ⊎_elim
      (λ (early : k < length (step call M).1.subscriptions).
      ⊎_elim
      (λ (same : SameCount M (step call M).1). inl (omega arith))
      (λ (opens : Opens (length M.subscriptions) M call (step call M).0 × (length (step call M).1.subscriptions ≡ length M.subscriptions + 1)).
      ⊎_elim
      (λ (before : k < length M.subscriptions). inl before)
      (λ past.
      let this : length M.subscriptions ≡ k = omega (arith, opens.1) in
      inr (once_now call calls M (Opens k) (subst (λ j. Opens j M call (step call M).0) this opens.0)))
      (cases_lt k (length M.subscriptions)))
      (counted call M))
      (λ (once : Once calls (step call M).1 (Opens k)). inr (once_later call calls M (Opens k) once))
      (opened_once calls (step call M).1 k within)
