-- What each event keeps, each call keeps: a relation of states that holds over every event holds over any list of calls.
use Rattle.std.proofs.Common.{◌≡◌, ◌≢◌, ℕ, Bool, true, false, cond, ◌||◌, List, [], ◌∷◌, length, Option, Some, None, slice_get, Result, Ok, Err, ◌==◌, refl, ap}
use Rattle.std.specs.List.{fold, list_any, range_with_len}
use Rattle.flow_terms.specs.declared.refusal.Refusal.{Refusal}
use Rattle.flow_terms.specs.declared.refusal.Refusal.TheVariants.{Spent, SubscribersFull}
use Rattle.flow_terms.specs.declared.ids.SubId.{SubId}
use Rattle.shared_core.specs.Flow.{State, Subscription, Standing, waits, stands, gone, capacity, rest, pending_values, accept, greet, receive, lose_oldest, open_next, close_at, put, settle, settle_one, has_room, live_count, number, number_limit, index}
use Rattle.shared_core.specs.Calls.{Fate, enters, pushes_in, handed_over, dropped, held_up, fate, try_by, try_emit, start_by, start_emit, is_done, take_back, poll_at, poll_emit, cancel_emit_at, cancel_emit, subscribe_with, next_of, next_at, next_value, cancel_at, cancel, reset, Call, trying, starting, polling, withdrawing, subscribing, receiving, cancelling, resetting, counting, step, after, numbers_spent, ticket_at, live_one}
use Rattle.shared_core.specs.Headline.{is_reset}
use Rattle.shared_core.proofs.Fates.{entering_room, handing_room, pushing_places}

or_false : (a b : Bool) → (a || b) ≡ false → (a ≡ false) × (b ≡ false)
or_false true b none = absurd (cc)
or_false false b none = (refl, none)

-- a relation that each event keeps, a greeting, a receipt and a reset apart; a value is accepted where there is room, or pushed in
pub record OverQuiet {T : Type 0} (R : State T → State T → Type 0) : Type 0 where
  pub same : (M : State T) → R M M
  pub then : {M N K : State T} → R M N → R N K → R M K
  pub accepts : (emitter : ℕ) (v : T) (M : State T) → has_room M ≡ true → R M (accept emitter v M)
  pub pushes : (emitter : ℕ) (v : T) (M : State T) → capacity M.parameters ≢ 0 → R M (accept emitter v (lose_oldest M))
  pub opens : (prelude : List T) (M : State T) → R M (open_next prelude M)
  pub closes : (k : ℕ) (M : State T) → R M (close_at k M)
  pub tickets : (M : State T) (tickets : List (Standing T)) → R M (record M { tickets = tickets })

-- a call that receives nothing and resets nothing
abbrev pub IsQuiet : {T : Type 0} → Call T → Type 0
IsQuiet (receiving n) = ⊥
IsQuiet resetting = ⊥
IsQuiet _ = Unit {0}

-- a relation that each event keeps
pub record OverEvents {T : Type 0} (R : State T → State T → Type 0) : Type 0 where
  pub quiet : OverQuiet R
  pub greets : (k : ℕ) (M : State T) → R M (greet k M)
  pub receives : (k : ℕ) (M : State T) → R M (receive k M)
  pub resets : (M : State T) → R M (reset M)

module _ {T : Type 0} {R : State T → State T → Type 0} (over : OverQuiet R) where
  if_over : {A : Type 0} (M : State T) (b : Bool) (x y : A × State T) → R M x.1 → R M y.1 → R M (cond b x y).1
  if_over M true x y at_true at_false = at_true
  if_over M false x y at_true at_false = at_false

  settle_one_over : (k : ℕ) (M : State T) (standing : Option (Standing T)) → R M (settle_one k M standing)
  settle_one_over k M None = over.same M
  settle_one_over k M (Some gone) = over.same M
  settle_one_over k M (Some (stands i)) = over.same M
  settle_one_over k M (Some (waits emitter v)) =
      elim (has_room M) as (λ b. has_room M ≡ b → R M (cond b (put k (stands (length M.accepted)) (accept emitter v M)) M)) [
        | true ↦ λ room. over.then (over.accepts emitter v M room) (over.tickets (accept emitter v M) (put k (stands (length M.accepted)) (accept emitter v M)).tickets)
        | false ↦ λ _. over.same M
      ] refl

  settle_all_over : (ks : List ℕ) (M : State T) → R M (fold (λ N k. settle_one k N (slice_get N.tickets k)) M ks)
  settle_all_over [] M = over.same M
  settle_all_over (k ∷ ks) M = over.then (settle_one_over k M (slice_get M.tickets k)) (settle_all_over ks (settle_one k M (slice_get M.tickets k)))

  pub settle_over : (M : State T) → R M (settle M)
  unfolding settle
  settle_over M = settle_all_over (range_with_len 0 (length M.tickets)) M

  try_by_over : (f : Fate) (emitter : ℕ) (v : T) (M : State T) → fate M ≡ f → R M (try_by f emitter v M).1
  try_by_over enters emitter v M is = over.accepts emitter v M (entering_room M is)
  try_by_over pushes_in emitter v M is = over.pushes emitter v M (pushing_places M is)
  try_by_over dropped emitter v M is = over.same M
  try_by_over handed_over emitter v M is = over.same M
  try_by_over held_up emitter v M is = over.same M

  try_over : (emitter : ℕ) (v : T) (M : State T) → R M (try_emit emitter v M).1
  unfolding try_emit
  try_over emitter v M = if_over M (numbers_spent M) (Err Spent, M) (try_by (fate M) emitter v M) (over.same M) (try_by_over (fate M) emitter v M refl)

  start_by_over : (f : Fate) (emitter : ℕ) (v : T) (M : State T) → fate M ≡ f → R M (start_by f emitter v M).1
  start_by_over enters emitter v M is = over.accepts emitter v M (entering_room M is)
  start_by_over pushes_in emitter v M is = over.pushes emitter v M (pushing_places M is)
  start_by_over dropped emitter v M is = over.same M
  start_by_over handed_over emitter v M is = if_over M _ _ _ (over.then (over.accepts emitter v M (handing_room M is)) (over.tickets (accept emitter v M) _)) (over.same M)
  start_by_over held_up emitter v M is = if_over M _ _ _ (over.tickets M _) (over.same M)

  start_over : (emitter : ℕ) (v : T) (M : State T) → R M (start_emit emitter v M).1
  unfolding start_emit
  start_over emitter v M = if_over M _ (Err Spent, M) (start_by (fate M) emitter v M) (over.same M) (start_by_over (fate M) emitter v M refl)

  take_back_over : (k : Option ℕ) (M : State T) → R M (take_back k M)
  take_back_over None M = over.same M
  take_back_over (Some k) M = over.tickets M (put k gone M).tickets

  poll_at_over : (k : Option ℕ) (standing : Standing T) (M : State T) → R M (poll_at k standing M).1
  poll_at_over k (waits emitter v) M = over.same M
  poll_at_over k (stands i) M = if_over M (is_done M i) _ _ (take_back_over k M) (over.same M)
  poll_at_over k gone M = over.same M

  poll_over : (n : ℕ) (M : State T) → R M (poll_emit n M).1
  unfolding poll_emit
  poll_over n M = poll_at_over (index M n) (ticket_at M.tickets (index M n)) M

  cancel_emit_at_over : (k : Option ℕ) (standing : Standing T) (M : State T) → R M (cancel_emit_at k standing M).1
  cancel_emit_at_over k (waits emitter v) M = take_back_over k M
  cancel_emit_at_over k (stands i) M = take_back_over k M
  cancel_emit_at_over k gone M = over.same M

  withdraw_over : (n : ℕ) (M : State T) → R M (cancel_emit n M).1
  unfolding cancel_emit
  withdraw_over n M = cancel_emit_at_over (index M n) (ticket_at M.tickets (index M n)) M

  subscribe_over : (prelude : List T) (M : State T) → R M (subscribe_with prelude M).1
  unfolding subscribe_with
  subscribe_over prelude M =
      let made : Result SubId Refusal × State T = (Ok (record { 0 = number M (length M.subscriptions) }), open_next prelude M) in
      let full : Result SubId Refusal × State T = (Err SubscribersFull, M) in
      let is_full = live_count M == M.parameters.subscribers in
      if_over M (number M (length M.subscriptions) == number_limit) (Err Spent, M) (cond is_full full made) (over.same M)
      (if_over M is_full full made (over.same M) (over.opens prelude M))

  cancel_at_over : (found : Option (ℕ × Subscription T)) (M : State T) → R M (cancel_at found M).1
  cancel_at_over None M = over.same M
  cancel_at_over (Some (k, s)) M = over.then (over.closes k M) (settle_over (close_at k M))

  cancel_over : (n : ℕ) (M : State T) → R M (cancel n M).1
  unfolding cancel
  cancel_over n M = cancel_at_over (live_one M n) M

  pub step_quiet : (call : Call T) → IsQuiet call → (M : State T) → R M (step call M).1
  step_quiet (trying emitter v) quiet M = try_over emitter v M
  step_quiet (starting emitter v) quiet M = start_over emitter v M
  step_quiet (polling n) quiet M = poll_over n M
  step_quiet (withdrawing n) quiet M = withdraw_over n M
  step_quiet (subscribing prelude) quiet M = subscribe_over prelude M
  step_quiet (receiving n) quiet M = absurd quiet
  step_quiet (cancelling n) quiet M = cancel_over n M
  step_quiet resetting quiet M = absurd quiet
  step_quiet counting quiet M = over.same M

-- a relation that each event keeps, a reset apart
module _ {T : Type 0} {R : State T → State T → Type 0} (quiet : OverQuiet R) (greets : (k : ℕ) (M : State T) → R M (greet k M)) (receives : (k : ℕ) (M : State T) → R M (receive k M)) where
  next_of_over : (k : ℕ) (vs ps : List T) (M : State T) → R M (next_of k vs ps M).1
  next_of_over k [] [] M = quiet.same M
  next_of_over k [] (v ∷ _) M = quiet.then (receives k M) (settle_over quiet (receive k M))
  next_of_over k (v ∷ _) ps M = greets k M

  next_at_over : (found : Option (ℕ × Subscription T)) (M : State T) → R M (next_at found M).1
  next_at_over None M = quiet.same M
  next_at_over (Some (k, s)) M = next_of_over k (rest s) (pending_values M.accepted s) M

  next_over : (n : ℕ) (M : State T) → R M (next_value n M).1
  unfolding next_value
  next_over n M = next_at_over (live_one M n) M

  -- any call, given what a reset does to this state
  step_with : (call : Call T) (M : State T) → (call ≡ resetting → R M (reset M)) → R M (step call M).1
  step_with (trying emitter v) M resets = step_quiet quiet (trying emitter v) tt M
  step_with (starting emitter v) M resets = step_quiet quiet (starting emitter v) tt M
  step_with (polling n) M resets = step_quiet quiet (polling n) tt M
  step_with (withdrawing n) M resets = step_quiet quiet (withdrawing n) tt M
  step_with (subscribing prelude) M resets = step_quiet quiet (subscribing prelude) tt M
  step_with (receiving n) M resets = next_over n M
  step_with (cancelling n) M resets = step_quiet quiet (cancelling n) tt M
  step_with resetting M resets = resets refl
  step_with counting M resets = step_quiet quiet counting tt M

  -- calls none of which resets
  pub after_calm : (calls : List (Call T)) → list_any is_reset calls ≡ false → (M : State T) → R M (after calls M)
  after_calm [] calm M = quiet.same M
  after_calm (call ∷ calls) calm M =
      let parts = or_false (is_reset call) (list_any is_reset calls) calm in
      quiet.then (step_with call M (λ resets. absurd (let no : is_reset call ≡ true = ap is_reset resets in let yes = parts.0 in cc)))
      (after_calm calls parts.1 (step call M).1)

module _ {T : Type 0} {R : State T → State T → Type 0} (events : OverEvents R) where
  pub step_over : (call : Call T) (M : State T) → R M (step call M).1
  step_over call M = step_with events.quiet events.greets events.receives call M (λ _. events.resets M)

  pub after_over : (calls : List (Call T)) (M : State T) → R M (after calls M)
  after_over [] M = events.quiet.same M
  after_over (call ∷ calls) M = events.quiet.then (step_over call M) (after_over calls (step call M).1)
