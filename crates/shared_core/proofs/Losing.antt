-- When a subscription loses a value, and when it ends.
use Rattle.std.proofs.Common.{◌≡◌, ℕ, zero, suc, ◌⊎◌, inl, inr, ⊎_elim, Bool, true, false, cond, ◌&&◌, ◌||◌, ◌==◌, eqb, List, [], ◌∷◌, ◌++◌, length, Option, Some, None, slice_get, Result, Ok, Err, refl, sym, ap, ◌∙◌}
use Rattle.std.proofs.lemmas.Bool.{eqb-true, eqb-false}
use Rattle.std.proofs.lemmas.Option.{same_Some, slice_get-map, slice_get_within}
use Rattle.std.specs.Option.{option_map, IsSome}
use Rattle.flow_terms.specs.declared.refusal.Refusal.{Refusal}
use Rattle.flow_terms.specs.declared.refusal.Refusal.TheVariants.{Spent, SubscribersFull}
use Rattle.flow_terms.specs.declared.ids.SubId.{SubId}
use Rattle.flow_terms.specs.declared.answers.Tried.TheVariants as tried
use Rattle.flow_terms.specs.declared.answers.Begun.TheVariants as begun
use Rattle.shared_core.specs.Flow.{State, Standing, waits, stands, gone, drop_oldest, Subscription, rest, receive, lose_oldest, open_next, close_at, change, contains, pending, capacity, greet_first, receive_first, lose_first, greeted, received_next, lost_next, live_count, number, number_limit, index}
use Rattle.shared_core.specs.Calls.{Fate, enters, pushes_in, handed_over, dropped, held_up, fate, try_by, try_emit, start_by, start_emit, is_done, take_back, ticket_at, poll_at, poll_emit, cancel_emit_at, cancel_emit, subscribe_with, next_of, next_at, next_value, cancel_at, cancel, live_one, numbers_spent, tickets_spent, replied, Call, trying, starting, polling, withdrawing, subscribing, receiving, cancelling, resetting, counting, Reply, to_try, to_start, to_subscribe, to_receive, to_cancel, step, after}
use Rattle.shared_core.specs.Headline.{acceptance}
use Rattle.shared_core.proofs.Closing.{settled_subscriptions, get_changed}
use Rattle.shared_core.proofs.Given.{found_one, slice_get-append}
use Rattle.shared_core.proofs.Lists.{contains-push}
use Rattle.shared_core.proofs.Ordering.{pushing_drops}

record Keeps {T : Type 0} (s t : Subscription T) : Type 0 where
  lost : t.lost ≡ s.lost
  live : t.live ≡ s.live

keeps_same : {T : Type 0} (s : Subscription T) → Keeps s s
keeps_same s = record { lost = refl; live = refl }

keeps_greet_first : {T : Type 0} (s : Subscription T) (vs : List T) → Keeps s (greet_first s vs)
keeps_greet_first s [] = keeps_same s
keeps_greet_first s (v ∷ vs) = record { lost = refl; live = refl }

keeps_receive_first : {T : Type 0} (s : Subscription T) (vs : List T) (indexes : List ℕ) → Keeps s (receive_first s vs indexes)
keeps_receive_first s (v ∷ vs) indexes = keeps_same s
keeps_receive_first s [] [] = keeps_same s
keeps_receive_first s [] (i ∷ indexes) = record { lost = refl; live = refl }

lose_first-live : {T : Type 0} (s : Subscription T) (indexes : List ℕ) → (lose_first s indexes).live ≡ s.live
lose_first-live s [] = refl
lose_first-live s (i ∷ rest) = refl

both_true : (a b : Bool) → (a && b) ≡ true → (a ≡ true) × (b ≡ true)
both_true true b is = (refl, is)
both_true false b is = absurd (cc)

get_unchanged : {T : Type 0} (k j : ℕ) (f : Subscription T → Subscription T) (xs : List (Subscription T)) → (k ≡ j → ⊥) → slice_get (change j f xs) k ≡ slice_get xs k
get_unchanged k j f [] other = refl
get_unchanged zero zero f (x ∷ xs) other = absurd (other refl)
get_unchanged (suc k) zero f (x ∷ xs) other = refl
get_unchanged zero (suc j) f (x ∷ xs) other = refl
get_unchanged (suc k) (suc j) f (x ∷ xs) other = get_unchanged k j f xs (λ same. other (ap suc same))

lost_first : {T : Type 0} (s : Subscription T) (indexes : List ℕ) (i : ℕ) → contains (lose_first s indexes).lost i ≡ true → (contains s.lost i ≡ true) ⊎ ((rest : List ℕ) × (indexes ≡ i ∷ rest))
lost_first s [] i has = inl has
lost_first s (j ∷ rest) i has =
    elim (contains s.lost i) as (λ b. (b || eqb i j) ≡ true → (b ≡ true) ⊎ ((more : List ℕ) × (j ∷ rest ≡ i ∷ more))) [
      | true ↦ λ _. inl refl
      | false ↦ λ is. inr (rest, ap (λ n. n ∷ rest) (sym (eqb-true i j is)))
    ] (sym (contains-push s.lost j i) ∙ has)

module _ {T : Type 0} where
  -- an emission is accepted while the subscription has all its places taken, and the policy drops its oldest value
  pub record Drops (M : State T) (call : Call T) (reply : Reply T) (s : Subscription T) : Type 0 where
    pub policy : M.parameters.overflow ≡ drop_oldest
    pub accepts : IsSome (acceptance call reply)
    pub lives : s.live ≡ true
    pub full : length (pending (length M.accepted) s) ≡ capacity M.parameters

  record Ends (M : State T) (call : Call T) (reply : Reply T) (k : ℕ) (s t : Subscription T) : Type 0 where
    called : call ≡ cancelling (number M k)
    answered : reply ≡ to_cancel true
    lost : t.lost ≡ s.lost

  -- what a call does to a subscription
  abbrev Turns : State T → Call T → Reply T → ℕ → Subscription T → Subscription T → Type 0
  Turns M call reply k s t = Keeps s t ⊎ ((Drops M call reply s × (t ≡ lost_next (length M.accepted) s)) ⊎ Ends M call reply k s t)

  abbrev TurnsTo : Call T → State T → Reply T → List (Subscription T) → Type 0
  TurnsTo call M reply xs = (k : ℕ) (s : Subscription T) → slice_get M.subscriptions k ≡ Some s → (t : Subscription T) × (slice_get xs k ≡ Some t) × Turns M call reply k s t

  abbrev TurnsAll : Call T → State T → Reply T × State T → Type 0
  TurnsAll call M answer = TurnsTo call M answer.0 answer.1.subscriptions

  same_turns : (call : Call T) (M : State T) (reply : Reply T) (xs : List (Subscription T)) → xs ≡ M.subscriptions → TurnsTo call M reply xs
  same_turns call M reply xs same k s gets = (s, ap (λ xs. slice_get xs k) same ∙ gets, inl (keeps_same s))

  -- the subscriptions after each with all places taken lost its oldest value
  pushed_turns : (M : State T) (xs : List (Subscription T)) (call : Call T) (reply : Reply T) → M.parameters.overflow ≡ drop_oldest → IsSome (acceptance call reply)
      → xs ≡ (lose_oldest M).subscriptions → TurnsTo call M reply xs
  pushed_turns M ys call reply policy accepts same k s gets =
      let total = length M.accepted in
      let taken = length (pending total s) == capacity M.parameters in
      let there : slice_get ys k ≡ Some (cond (s.live && taken) (lost_next total s) s) =
      ap (λ xs. slice_get xs k) same ∙ slice_get-map _ M.subscriptions k ∙ ap (option_map (λ s. cond (s.live && (length (pending total s) == capacity M.parameters)) (lost_next total s) s)) gets in
      elim (s.live && taken) as (λ b. (s.live && taken) ≡ b → slice_get ys k ≡ Some (cond b (lost_next total s) s) → (t : Subscription T) × (slice_get ys k ≡ Some t) × Turns M call reply k s t) [
        | true ↦ λ is now.
            let both = both_true s.live taken is in
            (lost_next total s, now, inr (inl (record { policy = policy; accepts = accepts; lives = both.0; full = eqb-true _ _ both.1 }, refl)))
        | false ↦ λ _ now. (s, now, inl (keeps_same s))
      ] refl there

  changed_turns : (M : State T) (xs : List (Subscription T)) (call : Call T) (reply : Reply T) (j : ℕ) (f : Subscription T → Subscription T) → xs ≡ change j f M.subscriptions
      → ((k : ℕ) (s : Subscription T) → k ≡ j → slice_get M.subscriptions k ≡ Some s → Turns M call reply k s (f s)) → TurnsTo call M reply xs
  changed_turns M ys call reply j f same turn k s gets =
      elim (eqb k j) as (λ b. eqb k j ≡ b → (t : Subscription T) × (slice_get ys k ≡ Some t) × Turns M call reply k s t) [
        | true ↦ λ is.
            let this = eqb-true k j is in
            (f s, ap (λ xs. slice_get xs k) same ∙ ap (λ i. slice_get (change i f M.subscriptions) k) (sym this) ∙ get_changed k f s M.subscriptions gets, turn k s this gets)
        | false ↦ λ is. (s, ap (λ xs. slice_get xs k) same ∙ get_unchanged k j f M.subscriptions (eqb-false k j is) ∙ gets, inl (keeps_same s))
      ] refl

  turns_try_by : (f : Fate) (emitter : ℕ) (v : T) (M : State T) → fate M ≡ f → TurnsAll (trying emitter v) M (replied to_try (try_by f emitter v M))
  turns_try_by enters emitter v M is = same_turns (trying emitter v) M _ _ refl
  turns_try_by pushes_in emitter v M is = pushed_turns M _ (trying emitter v) (to_try (Ok (tried.Accepted (number M (length M.accepted))))) (pushing_drops M is) refl refl
  turns_try_by dropped emitter v M is = same_turns (trying emitter v) M _ _ refl
  turns_try_by handed_over emitter v M is = same_turns (trying emitter v) M _ _ refl
  turns_try_by held_up emitter v M is = same_turns (trying emitter v) M _ _ refl

  if_same : {A : Type 0} (M : State T) (b : Bool) (x y : A × State T) → x.1.subscriptions ≡ M.subscriptions → y.1.subscriptions ≡ M.subscriptions → (cond b x y).1.subscriptions ≡ M.subscriptions
  if_same M true x y at_true at_false = at_true
  if_same M false x y at_true at_false = at_false

  turns_start_by : (f : Fate) (emitter : ℕ) (v : T) (M : State T) → fate M ≡ f → TurnsAll (starting emitter v) M (replied to_start (start_by f emitter v M))
  turns_start_by enters emitter v M is = same_turns (starting emitter v) M _ _ refl
  turns_start_by pushes_in emitter v M is = pushed_turns M _ (starting emitter v) (to_start (Ok (begun.Accepted (number M (length M.accepted))))) (pushing_drops M is) refl refl
  turns_start_by dropped emitter v M is = same_turns (starting emitter v) M _ _ refl
  turns_start_by handed_over emitter v M is = same_turns (starting emitter v) M _ _ (if_same M _ _ _ refl refl)
  turns_start_by held_up emitter v M is = same_turns (starting emitter v) M _ _ (if_same M _ _ _ refl refl)

  same_take_back : (k : Option ℕ) (M : State T) → (take_back k M).subscriptions ≡ M.subscriptions
  same_take_back None M = refl
  same_take_back (Some k) M = refl

  same_poll_at : (k : Option ℕ) (standing : Standing T) (M : State T) → (poll_at k standing M).1.subscriptions ≡ M.subscriptions
  same_poll_at k (waits emitter v) M = refl
  same_poll_at k (stands i) M = if_same M (is_done M i) _ _ (same_take_back k M) refl
  same_poll_at k gone M = refl

  same_withdraw_at : (k : Option ℕ) (standing : Standing T) (M : State T) → (cancel_emit_at k standing M).1.subscriptions ≡ M.subscriptions
  same_withdraw_at k (waits emitter v) M = same_take_back k M
  same_withdraw_at k (stands i) M = same_take_back k M
  same_withdraw_at k gone M = refl

  opened_turns : (M : State T) (xs : List (Subscription T)) (call : Call T) (reply : Reply T) (new : Subscription T) → xs ≡ M.subscriptions ++ new ∷ [] → TurnsTo call M reply xs
  opened_turns M ys call reply new same k s gets =
      (s, ap (λ xs. slice_get xs k) same ∙ slice_get-append M.subscriptions (new ∷ []) k (slice_get_within M.subscriptions k s gets) ∙ gets, inl (keeps_same s))

  turns_subscribe : (prelude : List T) (M : State T) → TurnsAll (subscribing prelude) M (replied to_subscribe (subscribe_with prelude M))
  unfolding subscribe_with
  turns_subscribe prelude M =
      let made : Result SubId Refusal × State T = (Ok (record { 0 = number M (length M.subscriptions) }), open_next prelude M) in
      let full : Result SubId Refusal × State T = (Err SubscribersFull, M) in
      let spent : Result SubId Refusal × State T = (Err Spent, M) in
      elim (number M (length M.subscriptions) == number_limit) as (λ b. TurnsAll (subscribing prelude) M (replied to_subscribe (cond b spent (cond (live_count M == M.parameters.subscribers) full made)))) [
        | true ↦ same_turns (subscribing prelude) M _ _ refl
        | false ↦ elim (live_count M == M.parameters.subscribers) as (λ b. TurnsAll (subscribing prelude) M (replied to_subscribe (cond b full made))) [
          | true ↦ same_turns (subscribing prelude) M _ _ refl
          | false ↦ opened_turns M _ (subscribing prelude) _ _ refl
        ]
      ]

  turns_next_of : (n k : ℕ) (vs ps : List T) (M : State T) → TurnsAll (receiving n) M (replied to_receive (next_of k vs ps M))
  turns_next_of n k [] [] M = same_turns (receiving n) M _ _ refl
  turns_next_of n k (v ∷ vs) ps M = changed_turns M _ (receiving n) _ k greeted refl (λ _ s _ _. inl (keeps_greet_first s (rest s)))
  turns_next_of n k [] (v ∷ ps) M =
      changed_turns M _ (receiving n) _ k (received_next (length M.accepted)) (settled_subscriptions (receive k M))
      (λ _ s _ _. inl (keeps_receive_first s (rest s) (pending (length M.accepted) s)))

  turns_next_at : (n : ℕ) (found : Option (ℕ × Subscription T)) (M : State T) → TurnsAll (receiving n) M (replied to_receive (next_at found M))
  turns_next_at n None M = same_turns (receiving n) M _ _ refl
  turns_next_at n (Some (k, s)) M = turns_next_of n k (rest s) _ M

  turns_cancel_at : (n : ℕ) (found : Option (ℕ × Subscription T)) (M : State T) → live_one M n ≡ found → TurnsAll (cancelling n) M (replied to_cancel (cancel_at found M))
  turns_cancel_at n None M is = same_turns (cancelling n) M _ _ refl
  turns_cancel_at n (Some (j, s)) M is =
      changed_turns M _ (cancelling n) (to_cancel true) j (λ t. record t { live = false }) (settled_subscriptions (close_at j M))
      (λ k t same gets. inr (inr record { called = ap (λ m. cancelling m) ((found_one M n j s is).named ∙ ap (number M) (sym same)); answered = refl; lost = refl }))

  turns : (call : Call T) (M : State T) → TurnsAll call M (step call M)
  unfolding try_emit start_emit poll_emit cancel_emit next_value cancel
  turns (trying emitter v) M =
      elim (numbers_spent M) as (λ b. TurnsAll (trying emitter v) M (replied to_try (cond b (Err Spent, M) (try_by (fate M) emitter v M)))) [
        | true ↦ same_turns (trying emitter v) M _ _ refl
        | false ↦ turns_try_by (fate M) emitter v M refl
      ]
  turns (starting emitter v) M =
      elim (numbers_spent M || tickets_spent M) as (λ b. TurnsAll (starting emitter v) M (replied to_start (cond b (Err Spent, M) (start_by (fate M) emitter v M)))) [
        | true ↦ same_turns (starting emitter v) M _ _ refl
        | false ↦ turns_start_by (fate M) emitter v M refl
      ]
  turns (polling n) M = same_turns (polling n) M _ _ (same_poll_at (index M n) (ticket_at M.tickets (index M n)) M)
  turns (withdrawing n) M = same_turns (withdrawing n) M _ _ (same_withdraw_at (index M n) (ticket_at M.tickets (index M n)) M)
  turns (subscribing prelude) M = turns_subscribe prelude M
  turns (receiving n) M = turns_next_at n (live_one M n) M
  turns (cancelling n) M = turns_cancel_at n (live_one M n) M refl
  turns resetting M = same_turns resetting M _ _ refl
  turns counting M = same_turns counting M _ _ refl

  -- ---- lists of calls

  -- one of the calls, where this holds of the state before it, of the call and of its reply
  pub record Once (calls : List (Call T)) (M : State T) (P : State T → Call T → Reply T → Type 0) : Type 0 where
    pub before : List (Call T)
    pub call : Call T
    pub later : List (Call T)
    pub called : calls ≡ before ++ call ∷ later
    pub holds : P (after before M) call (step call (after before M)).0

  pub once_now : (call : Call T) (calls : List (Call T)) (M : State T) (P : State T → Call T → Reply T → Type 0) → P M call (step call M).0 → Once (call ∷ calls) M P
  once_now call calls M P holds = record { before = []; call = call; later = calls; called = refl; holds = holds }

  pub once_later : (call : Call T) (calls : List (Call T)) (M : State T) (P : State T → Call T → Reply T → Type 0) → Once calls (step call M).1 P → Once (call ∷ calls) M P
  once_later call calls M P once = record { before = call ∷ once.before; call = once.call; later = once.later; called = ap (λ cs. call ∷ cs) once.called; holds = once.holds }

  -- the subscription at index k loses its pending index i
  pub record Loses (k i : ℕ) (M : State T) (call : Call T) (reply : Reply T) : Type 0 where
    pub s : Subscription T
    pub gets : slice_get M.subscriptions k ≡ Some s
    pub drops : Drops M call reply s
    pub rest : List ℕ
    pub oldest : pending (length M.accepted) s ≡ i ∷ rest

  -- each lost index was lost by one of the calls
  pub lost_once : (calls : List (Call T)) (M : State T) (k : ℕ) (s t : Subscription T) → slice_get M.subscriptions k ≡ Some s → slice_get (after calls M).subscriptions k ≡ Some t
      → (i : ℕ) → contains t.lost i ≡ true → (contains s.lost i ≡ true) ⊎ Once calls M (Loses k i)
  lost_once [] M k s t gets later i has = inl (ap (λ (u : Subscription T). contains u.lost i) (same_Some s t (sym gets ∙ later)) ∙ has)
  lost_once (call ∷ calls) M k s t gets later i has =
      let one = turns call M k s gets in
      let further = lost_once calls (step call M).1 k one.0 t one.1 later i has in
      ⊎_elim
      (λ (now : contains one.0.lost i ≡ true). ⊎_elim
      (λ (keeps : Keeps s one.0). inl (ap (λ ns. contains ns i) (sym keeps.lost) ∙ now))
      (⊎_elim
      (λ (dropped : Drops M call (step call M).0 s × (one.0 ≡ lost_next (length M.accepted) s)).
      ⊎_elim
      (λ (before : contains s.lost i ≡ true). inl before)
      (λ (here : (rest : List ℕ) × (pending (length M.accepted) s ≡ i ∷ rest)).
      inr (once_now call calls M (Loses k i) (record { s = s; gets = gets; drops = dropped.0; rest = here.0; oldest = here.1 })))
      (lost_first s (pending (length M.accepted) s) i (ap (λ (u : Subscription T). contains u.lost i) (sym dropped.1) ∙ now)))
      (λ (ends : Ends M call (step call M).0 k s one.0). inl (ap (λ ns. contains ns i) (sym ends.lost) ∙ now)))
      one.2)
      (λ (once : Once calls (step call M).1 (Loses k i)). inr (once_later call calls M (Loses k i) once))
      further

  -- the subscription at index k is cancelled
  abbrev pub IsCancelled : ℕ → State T → Call T → Reply T → Type 0
  IsCancelled k M call reply = (call ≡ cancelling (number M k)) × (reply ≡ to_cancel true)

  -- a live subscription stays so until it is cancelled
  pub live_until : (calls : List (Call T)) (M : State T) (k : ℕ) (s : Subscription T) → slice_get M.subscriptions k ≡ Some s → s.live ≡ true
      → ((t : Subscription T) × (slice_get (after calls M).subscriptions k ≡ Some t) × (t.live ≡ true)) ⊎ Once calls M (IsCancelled k)
  live_until [] M k s gets live = inl (s, gets, live)
  live_until (call ∷ calls) M k s gets live =
      let one = turns call M k s gets in
      let go : one.0.live ≡ true → ((t : Subscription T) × (slice_get (after calls (step call M).1).subscriptions k ≡ Some t) × (t.live ≡ true)) ⊎ Once (call ∷ calls) M (IsCancelled k) =
      (λ (stays : one.0.live ≡ true). ⊎_elim
      (λ (lives : (t : Subscription T) × (slice_get (after calls (step call M).1).subscriptions k ≡ Some t) × (t.live ≡ true)). inl lives)
      (λ (once : Once calls (step call M).1 (IsCancelled k)). inr (once_later call calls M (IsCancelled k) once))
      (live_until calls (step call M).1 k one.0 one.1 stays)) in
      ⊎_elim
      (λ (keeps : Keeps s one.0). go (keeps.live ∙ live))
      (⊎_elim
      (λ (dropped : Drops M call (step call M).0 s × (one.0 ≡ lost_next (length M.accepted) s)).
      go (ap (λ (u : Subscription T). u.live) dropped.1 ∙ lose_first-live s (pending (length M.accepted) s) ∙ live))
      (λ (ends : Ends M call (step call M).0 k s one.0). inr (once_now call calls M (IsCancelled k) (ends.called, ends.answered))))
      one.2
