-- What was accepted and then what waits is what was emitted, over any list of calls.
use Rattle.std.proofs.Common.{◌≡◌, ◌≢◌, ℕ, zero, suc, ◌+◌, ◌-◌, Bool, true, false, cond, ◌||◌, ◌&&◌, ◌⊎◌, ◌==◌, eqb, ltb, leb, List, [], ◌∷◌, ◌++◌, length, Option, Some, None, slice_get, Result, Ok, Err, refl, sym, ap, ◌∙◌, subst, arith, append_assoc}
use Rattle.std.proofs.lemmas.Bool.{eq-eqb, eqb-true, eqb-false, ne_eqb, leb-true}
use Rattle.std.proofs.lemmas.List.{append-nil}
use Rattle.std.proofs.lemmas.Option.{none-some, same_Some}
use Rattle.std.proofs.lemmas.List.Elements.{filter-append}
use Rattle.std.specs.List.{filter_map, list_any, list_all}
use Rattle.flow_terms.specs.declared.refusal.Refusal.{Refusal}
use Rattle.flow_terms.specs.declared.refusal.Refusal.TheVariants.{Spent, SubscribersFull, EmitsFull}
use Rattle.flow_terms.specs.declared.ids.SubId.{SubId}
use Rattle.flow_terms.specs.declared.ids.Ticket.{Ticket}
use Rattle.flow_terms.specs.declared.answers.Tried.TheVariants as tried
use Rattle.flow_terms.specs.declared.answers.Begun.TheVariants as begun
use Rattle.flow_terms.specs.declared.answers.Emit.TheVariants as emit
use Rattle.flow_terms.specs.declared.answers.Withdrawn.TheVariants as withdrawn
use Rattle.shared_core.specs.Flow.{State, Standing, waits, stands, gone, does_wait, suspend, Subscription, empty, rest, accept, receive, lose_oldest, open_next, close_at, give, put, settle, change, has_room, pending, places, capacity, live_count, number, number_limit, index, out_count}
use Rattle.shared_core.specs.Calls.{Fate, enters, pushes_in, handed_over, dropped, held_up, fate, try_by, try_emit, start_by, start_emit, is_done, or_gone, ticket_at, take_back, poll_at, poll_emit, cancel_emit_at, cancel_emit, subscribe_with, next_of, next_at, next_value, cancel_at, cancel, reset, numbers_spent, tickets_spent, live_one, replied, Call, trying, starting, polling, withdrawing, subscribing, receiving, cancelling, resetting, counting, Reply, to_try, to_start, to_poll, to_withdraw, to_subscribe, to_receive, to_cancel, to_reset, to_count, step, replies, after}
use Rattle.shared_core.specs.Story.{is_removed, emitted, if_waiting, by_emitter, OrderLaw}
use Rattle.shared_core.proofs.Greeting.{greeted_room}
use Rattle.shared_core.proofs.Steps.{index-low}
use Rattle.shared_core.proofs.Walks.{OverEvents, step_over}
use Rattle.shared_core.proofs.Queueing.{kept_from, kept-all, kept-none, Settled, settled_same, settled_put, settled_settle, Unnamed, settle_settles, fewer_wait}
use Rattle.shared_core.proofs.Ordering.{IsQueued, none_entering, none_handed, none_pushing, says_held, kept_same, kept_push, kept_gone, kept_calm, any_push, last_push}

module _ {T : Type 0} where
  -- whether the reply says that the emission with this ticket was removed
  abbrev removes : Call T → Reply T → ℕ → Bool
  removes (withdrawing m) (to_withdraw withdrawn.Removed) n = m == n
  removes _ _ n = false

  -- what the call emitted, but for the tickets that the test names
  abbrev emits : Call T → Reply T → (ℕ → Bool) → List (ℕ × T)
  emits (trying emitter v) (to_try (Ok (tried.Accepted n))) q = (emitter, v) ∷ []
  emits (starting emitter v) (to_start (Ok (begun.Accepted n))) q = (emitter, v) ∷ []
  emits (starting emitter v) (to_start (Ok (begun.Waiting ticket))) q = cond (q ticket.0) [] ((emitter, v) ∷ [])
  emits _ _ q = []

  record CallOrder (call : Call T) (M : State T) (answer : Reply T × State T) (q : ℕ → Bool) : Type 0 where
    order : answer.1.accepted ++ kept_from (λ k. q (number M k)) 0 answer.1.tickets ≡ (M.accepted ++ kept_from (λ k. removes call answer.0 (number M k) || q (number M k)) 0 M.tickets) ++ emits call answer.0 q
    queued : IsQueued answer.1
    same : answer.1.parameters ≡ M.parameters

  pub calm_queued : (N : State T) → list_any does_wait N.tickets ≡ false → IsQueued N
  calm_queued N none = record { held = λ some. absurd (cc); suspends = λ some. absurd (cc) }

  room_tickets : (M : State T) (ts : List (Standing T)) → has_room (record M { tickets = ts }) ≡ has_room M
  unfolding has_room
  room_tickets M ts = refl

  same_test : (n k i : ℕ) (M : State T) → n ≡ number M k → eqb (0 + k) i ≡ eqb n (number M i)
  same_test n k i M named =
      elim (eqb (0 + k) i) as (λ b. eqb (0 + k) i ≡ b → b ≡ eqb n (number M i)) [
        | true ↦ λ is. let same = eqb-true (0 + k) i is in sym (eq-eqb n (number M i) (omega arith))
        | false ↦ λ is. let other = eqb-false (0 + k) i is in sym (ne_eqb n (number M i) (λ h. other (omega arith)))
      ] refl

  -- where none waits, a new acceptance is the last emission
  enter_order : (M : State T) (q r : ℕ → Bool) (x : ℕ × T) → list_any does_wait M.tickets ≡ false → (M.accepted ++ x ∷ []) ++ kept_from q 0 M.tickets ≡ (M.accepted ++ kept_from r 0 M.tickets) ++ x ∷ []
  enter_order M q r x none =
      ap (λ xs. (M.accepted ++ x ∷ []) ++ xs) (kept-none q 0 M.tickets none) ∙ append-nil (M.accepted ++ x ∷ [])
      ∙ ap (λ xs. xs ++ x ∷ []) (sym (ap (λ xs. M.accepted ++ xs) (kept-none r 0 M.tickets none) ∙ append-nil M.accepted))

  module _ (M : State T) (queued : IsQueued M) (q : ℕ → Bool) where
    abbrev at : ℕ → Bool
    at k = q (number M k)

    keeps_order : M.accepted ++ kept_from at 0 M.tickets ≡ (M.accepted ++ kept_from at 0 M.tickets) ++ []
    keeps_order = sym (append-nil (M.accepted ++ kept_from at 0 M.tickets))

    order-try_by : (f : Fate) (emitter : ℕ) (v : T) → fate M ≡ f → CallOrder (trying emitter v) M (replied to_try (try_by f emitter v M)) q
    order-try_by enters emitter v is = let none = none_entering M queued is in record { order = enter_order M at at (emitter, v) none; queued = calm_queued (accept emitter v M) none; same = refl }
    order-try_by pushes_in emitter v is = let none = none_pushing M queued is in record { order = enter_order M at at (emitter, v) none; queued = calm_queued (accept emitter v (lose_oldest M)) none; same = refl }
    order-try_by dropped emitter v is = record { order = keeps_order; queued = queued; same = refl }
    order-try_by handed_over emitter v is = record { order = keeps_order; queued = queued; same = refl }
    order-try_by held_up emitter v is = record { order = keeps_order; queued = queued; same = refl }

    order-try : (emitter : ℕ) (v : T) → CallOrder (trying emitter v) M (replied to_try (try_emit emitter v M)) q
    unfolding try_emit
    order-try emitter v =
        let spent : Result _ Refusal × State T = (Err Spent, M) in
        elim (numbers_spent M) as (λ b. CallOrder (trying emitter v) M (replied to_try (cond b spent (try_by (fate M) emitter v M))) q) [
          | true ↦ record { order = keeps_order; queued = queued; same = refl }
          | false ↦ order-try_by (fate M) emitter v refl
        ]

    order-start_by : (f : Fate) (emitter : ℕ) (v : T) → fate M ≡ f → Unnamed at (start_by f emitter v M).1.tickets → CallOrder (starting emitter v) M (replied to_start (start_by f emitter v M)) q
    order-start_by enters emitter v is unnamed = let none = none_entering M queued is in record { order = enter_order M at at (emitter, v) none; queued = calm_queued (accept emitter v M) none; same = refl }
    order-start_by pushes_in emitter v is unnamed = let none = none_pushing M queued is in record { order = enter_order M at at (emitter, v) none; queued = calm_queued (accept emitter v (lose_oldest M)) none; same = refl }
    order-start_by dropped emitter v is unnamed = record { order = keeps_order; queued = queued; same = refl }
    order-start_by handed_over emitter v is unnamed =
        let none = none_handed M queued is in
        let ticket : Ticket = record { 0 = number M (length M.tickets) } in
        let yes : Result (begun.the_data ℕ Ticket) Refusal × State T = (Ok (begun.Waiting ticket), give (stands (length M.accepted)) (accept emitter v M)) in
        let no : Result (begun.the_data ℕ Ticket) Refusal × State T = (Err EmitsFull, M) in
        elim (ltb (out_count M) M.parameters.emits) as (λ b. Unnamed at (cond b yes no).1.tickets → CallOrder (starting emitter v) M (replied to_start (cond b yes no)) q) [
          | true ↦ λ free.
              let mine : q (number M (length M.tickets)) ≡ false = free (length M.tickets) (stands (length M.accepted)) (last_push M.tickets (stands (length M.accepted))) refl in
              record {
                order =
                    ap (λ xs. (M.accepted ++ (emitter, v) ∷ []) ++ xs) (kept_push at 0 M.tickets (stands (length M.accepted)) ∙ append-nil (kept_from at 0 M.tickets))
                    ∙ enter_order M at at (emitter, v) none
                    ∙ ap (λ b. (M.accepted ++ kept_from at 0 M.tickets) ++ cond b [] ((emitter, v) ∷ [])) (sym mine);
                queued = calm_queued _ (any_push M.tickets (stands (length M.accepted)) ∙ ap (λ b. b || false) none);
                same = refl;
              }
          | false ↦ λ _. record { order = keeps_order; queued = queued; same = refl }
        ] unnamed
    order-start_by held_up emitter v is unnamed =
        let says = says_held M queued is in
        let ticket : Ticket = record { 0 = number M (length M.tickets) } in
        let yes : Result (begun.the_data ℕ Ticket) Refusal × State T = (Ok (begun.Waiting ticket), give (waits emitter v) M) in
        let no : Result (begun.the_data ℕ Ticket) Refusal × State T = (Err EmitsFull, M) in
        elim (ltb (out_count M) M.parameters.emits) as (λ b. CallOrder (starting emitter v) M (replied to_start (cond b yes no)) q) [
          | true ↦ record {
            order = ap (λ xs. M.accepted ++ xs) (kept_push at 0 M.tickets (waits emitter v))
                ∙ ap (λ n. M.accepted ++ (kept_from at 0 M.tickets ++ cond (at n) [] ((emitter, v) ∷ []))) (omega arith)
                ∙ sym (append_assoc M.accepted (kept_from at 0 M.tickets) (cond (at (length M.tickets)) [] ((emitter, v) ∷ [])));
            queued = record { held = λ _. room_tickets M _ ∙ says.0; suspends = λ _. says.1 };
            same = refl;
          }
          | false ↦ record { order = keeps_order; queued = queued; same = refl }
        ]

    order-start : (emitter : ℕ) (v : T) → Unnamed at (start_emit emitter v M).1.tickets → CallOrder (starting emitter v) M (replied to_start (start_emit emitter v M)) q
    unfolding start_emit
    order-start emitter v unnamed =
        let spent : Result (begun.the_data ℕ Ticket) Refusal × State T = (Err Spent, M) in
        elim (numbers_spent M || tickets_spent M) as (λ b. Unnamed at (cond b spent (start_by (fate M) emitter v M)).1.tickets → CallOrder (starting emitter v) M (replied to_start (cond b spent (start_by (fate M) emitter v M))) q) [
          | true ↦ λ _. record { order = keeps_order; queued = queued; same = refl }
          | false ↦ λ free. order-start_by (fate M) emitter v refl free
        ] unnamed

    gone_queued : (k : ℕ) → IsQueued (put k gone M)
    gone_queued k = record {
      held = λ some. room_tickets M _ ∙ queued.held (fewer_wait k gone refl M.tickets some);
      suspends = λ some. queued.suspends (fewer_wait k gone refl M.tickets some);
    }

    or_gone_some : (o : Option (Standing T)) (t : Standing T) → or_gone o ≡ t → t ≢ gone → o ≡ Some t
    or_gone_some None t is other = absurd (other (sym is))
    or_gone_some (Some u) t is other = ap Some is

    gone_order : (k : ℕ) (t : Standing T) → slice_get M.tickets k ≡ Some t → does_wait t ≡ false → M.accepted ++ kept_from at 0 (change k (λ _. gone) M.tickets) ≡ (M.accepted ++ kept_from at 0 M.tickets) ++ []
    gone_order k t gets calm = ap (λ xs. M.accepted ++ xs) (kept_calm at 0 k M.tickets t gets calm) ∙ keeps_order

    order-poll_at : (n : ℕ) (k : Option ℕ) (t : Standing T) → ticket_at M.tickets k ≡ t → CallOrder (polling n) M (replied to_poll (poll_at k t M)) q
    order-poll_at n k (waits emitter v) is = record { order = keeps_order; queued = queued; same = refl }
    order-poll_at n k gone is = record { order = keeps_order; queued = queued; same = refl }
    order-poll_at n None (stands i) is = absurd (cc)
    order-poll_at n (Some k) (stands i) is =
        let gets = or_gone_some (slice_get M.tickets k) (stands i) is (λ h. cc) in
        elim (is_done M i) as (λ b. CallOrder (polling n) M (replied to_poll (cond b (emit.Done (number M i), put k gone M) (emit.Waiting, M))) q) [
          | true ↦ record { order = gone_order k (stands i) gets refl; queued = gone_queued k; same = refl }
          | false ↦ record { order = keeps_order; queued = queued; same = refl }
        ]

    order-withdraw_at : (n k : ℕ) (t : Standing T) → n ≡ number M k → slice_get M.tickets k ≡ Some t → CallOrder (withdrawing n) M (replied to_withdraw (cancel_emit_at (Some k) t M)) q
    order-withdraw_at n k (waits emitter v) named gets = record {
      order =
          ap (λ xs. M.accepted ++ xs) (kept_gone at 0 k M.tickets
          ∙ kept_same (λ i. eqb (0 + k) i || at i) (λ i. eqb n (number M i) || at i) 0 M.tickets (λ i. ap (λ b. b || at i) (same_test n k i M named)))
          ∙ sym (append-nil _);
      queued = gone_queued k;
      same = refl;
    }
    order-withdraw_at n k (stands i) named gets = record { order = gone_order k (stands i) gets refl; queued = gone_queued k; same = refl }
    order-withdraw_at n k gone named gets = record { order = keeps_order; queued = queued; same = refl }

    -- a call that settles
    order-settled : (N : State T) → N.accepted ≡ M.accepted → N.tickets ≡ M.tickets → N.parameters ≡ M.parameters → Unnamed at (settle N).tickets
        → ((settle N).accepted ++ kept_from at 0 (settle N).tickets ≡ (M.accepted ++ kept_from at 0 M.tickets) ++ []) × IsQueued (settle N) × ((settle N).parameters ≡ M.parameters)
    order-settled N accepted tickets parameters unnamed =
        let settled = settle_settles at N unnamed in (
          settled.order ∙ ap (λ xs. xs ++ kept_from at 0 N.tickets) accepted ∙ ap (λ ts. M.accepted ++ kept_from at 0 ts) tickets ∙ keeps_order,
          record {
            held = settled.held;
            suspends = λ some. subst (λ p. (capacity p ≡ 0) ⊎ (p.overflow ≡ suspend)) (sym (settled.same ∙ parameters)) (queued.suspends (ap (list_any does_wait) (sym tickets) ∙ settled.fewer some));
          },
          settled.same ∙ parameters,
        )

    order-next_of : (n k : ℕ) (vs ps : List T) → Unnamed at (next_of k vs ps M).1.tickets → CallOrder (receiving n) M (replied to_receive (next_of k vs ps M)) q
    order-next_of n k [] [] unnamed = record { order = keeps_order; queued = queued; same = refl }
    order-next_of n k (v ∷ vs) ps unnamed =
        record { order = keeps_order; queued = record { held = λ some. greeted_room k M ∙ queued.held some; suspends = queued.suspends }; same = refl }
    order-next_of n k [] (v ∷ ps) unnamed =
        let settled = order-settled (receive k M) refl refl refl unnamed in
        record { order = settled.0; queued = settled.1; same = settled.2 }

    order-next_at : (n : ℕ) (o : Option (ℕ × Subscription T)) → Unnamed at (next_at o M).1.tickets → CallOrder (receiving n) M (replied to_receive (next_at o M)) q
    order-next_at n None unnamed = record { order = keeps_order; queued = queued; same = refl }
    order-next_at n (Some (k, s)) unnamed = order-next_of n k (rest s) _ unnamed

    order-cancel_at : (n : ℕ) (o : Option (ℕ × Subscription T)) → Unnamed at (cancel_at o M).1.tickets → CallOrder (cancelling n) M (replied to_cancel (cancel_at o M)) q
    order-cancel_at n None unnamed = record { order = keeps_order; queued = queued; same = refl }
    order-cancel_at n (Some (k, s)) unnamed =
        let settled = order-settled (close_at k M) refl refl refl unnamed in
        record { order = settled.0; queued = settled.1; same = settled.2 }

    all_push : {X : Type 0} (p : X → Bool) (xs : List X) (x : X) → list_all p xs ≡ false → list_all p (xs ++ x ∷ []) ≡ false
    all_push p [] x lacks = absurd (cc)
    all_push p (y ∷ xs) x lacks =
        elim (p y) as (λ b. (b && list_all p xs) ≡ false → (b && list_all p (xs ++ x ∷ [])) ≡ false) [ true ↦ λ h. all_push p xs x h | false ↦ λ _. refl ] lacks

    opened_room : (prelude : List T) → has_room M ≡ false → has_room (open_next prelude M) ≡ false
    unfolding has_room
    opened_room prelude full = all_push (λ s. ltb (length (pending (length M.accepted) s)) (places M.parameters)) M.subscriptions _ full

    order-subscribe : (prelude : List T) → CallOrder (subscribing prelude) M (replied to_subscribe (subscribe_with prelude M)) q
    unfolding subscribe_with
    order-subscribe prelude =
        let made : Result SubId Refusal × State T = (Ok (record { 0 = number M (length M.subscriptions) }), open_next prelude M) in
        let full : Result SubId Refusal × State T = (Err SubscribersFull, M) in
        let spent : Result SubId Refusal × State T = (Err Spent, M) in
        let is_full = live_count M == M.parameters.subscribers in
        elim (number M (length M.subscriptions) == number_limit) as (λ b. CallOrder (subscribing prelude) M (replied to_subscribe (cond b spent (cond is_full full made))) q) [
          | true ↦ record { order = keeps_order; queued = queued; same = refl }
          | false ↦ elim is_full as (λ b. CallOrder (subscribing prelude) M (replied to_subscribe (cond b full made)) q) [
            | true ↦ record { order = keeps_order; queued = queued; same = refl }
            | false ↦ record { order = keeps_order; queued = record { held = λ some. opened_room prelude (queued.held some); suspends = queued.suspends }; same = refl }
          ]
        ]

    reset_room : has_room (reset M) ≡ has_room M
    unfolding has_room
    reset_room = refl

  -- where the index of a number is known, so is the number
  index_is : (M : State T) (n k : ℕ) → index M n ≡ Some k → n ≡ number M k
  index_is M n k is =
      elim (leb M.parameters.first n) as (λ b. leb M.parameters.first n ≡ b → cond b (Some (n - M.parameters.first)) None ≡ Some k → n ≡ number M k) [
        | true ↦ λ low h. let below = leb-true M.parameters.first n low in let same = same_Some (n - M.parameters.first) k h in omega arith
        | false ↦ λ _ h. absurd (none-some k h)
      ] refl is

  order-withdraw : (M : State T) (queued : IsQueued M) (q : ℕ → Bool) (n : ℕ) (o : Option ℕ) → index M n ≡ o → CallOrder (withdrawing n) M (replied to_withdraw (cancel_emit_at o (ticket_at M.tickets o) M)) q
  order-withdraw M queued q n None is = record { order = keeps_order M queued q; queued = queued; same = refl }
  order-withdraw M queued q n (Some k) is = ticket (slice_get M.tickets k) refl
    where
      ticket : (o : Option (Standing T)) → slice_get M.tickets k ≡ o → CallOrder (withdrawing n) M (replied to_withdraw (cancel_emit_at (Some k) (or_gone o) M)) q
      ticket None gets = record { order = keeps_order M queued q; queued = queued; same = refl }
      ticket (Some t) gets = order-withdraw_at M queued q n k t (index_is M n k is) gets

  order-call : (call : Call T) (M : State T) → IsQueued M → (q : ℕ → Bool) → Unnamed (λ k. q (number M k)) (step call M).1.tickets → CallOrder call M (step call M) q
  unfolding poll_emit cancel_emit next_value cancel
  order-call (trying emitter v) M queued q unnamed = order-try M queued q emitter v
  order-call (starting emitter v) M queued q unnamed = order-start M queued q emitter v unnamed
  order-call (polling n) M queued q unnamed = order-poll_at M queued q n (index M n) (ticket_at M.tickets (index M n)) refl
  order-call (withdrawing n) M queued q unnamed = order-withdraw M queued q n (index M n) refl
  order-call (subscribing prelude) M queued q unnamed = order-subscribe M queued q prelude
  order-call (receiving n) M queued q unnamed = order-next_at M queued q n (live_one M n) unnamed
  order-call (cancelling n) M queued q unnamed = order-cancel_at M queued q n (live_one M n) unnamed
  order-call resetting M queued q unnamed = record {
    order = keeps_order M queued q;
    queued = record { held = λ some. reset_room M queued q ∙ queued.held some; suspends = queued.suspends };
    same = refl;
  }
  order-call counting M queued q unnamed = record { order = keeps_order M queued q; queued = queued; same = refl }

  pub queued-after : (calls : List (Call T)) (M : State T) → IsQueued M → IsQueued (after calls M)
  queued-after [] M queued = queued
  queued-after (call ∷ calls) M queued = queued-after calls (step call M).1 (order-call call M queued (λ _. false) (λ k t gets calm. refl)).queued

  -- ---- tickets that don't wait

  settled_push : (ts : List (Standing T)) (new : Standing T) → Settled ts (ts ++ new ∷ [])
  settled_push [] new k t gets calm = absurd (none-some t gets)
  settled_push (x ∷ rest) new zero t gets calm = (t, gets, calm)
  settled_push (x ∷ rest) new (suc k) t gets calm = settled_push rest new k t gets calm

  settled_cond : {A : Type 0} (M : State T) (b : Bool) (x y : A × State T) → Settled M.tickets x.1.tickets → Settled M.tickets y.1.tickets → Settled M.tickets (cond b x y).1.tickets
  settled_cond M true x y at_true at_false = at_true
  settled_cond M false x y at_true at_false = at_false

  settled-try_by : (f : Fate) (emitter : ℕ) (v : T) (M : State T) → Settled M.tickets (try_by f emitter v M).1.tickets
  settled-try_by enters emitter v M = settled_same M.tickets
  settled-try_by pushes_in emitter v M = settled_same M.tickets
  settled-try_by dropped emitter v M = settled_same M.tickets
  settled-try_by handed_over emitter v M = settled_same M.tickets
  settled-try_by held_up emitter v M = settled_same M.tickets

  settled-start_by : (f : Fate) (emitter : ℕ) (v : T) (M : State T) → Settled M.tickets (start_by f emitter v M).1.tickets
  settled-start_by enters emitter v M = settled_same M.tickets
  settled-start_by pushes_in emitter v M = settled_same M.tickets
  settled-start_by dropped emitter v M = settled_same M.tickets
  settled-start_by handed_over emitter v M = settled_cond M _ _ _ (settled_push M.tickets _) (settled_same M.tickets)
  settled-start_by held_up emitter v M = settled_cond M _ _ _ (settled_push M.tickets _) (settled_same M.tickets)

  settled-take_back : (k : Option ℕ) (M : State T) → Settled M.tickets (take_back k M).tickets
  settled-take_back None M = settled_same M.tickets
  settled-take_back (Some k) M = settled_put k gone refl M.tickets

  settled-poll_at : (k : Option ℕ) (t : Standing T) (M : State T) → Settled M.tickets (poll_at k t M).1.tickets
  settled-poll_at k (waits emitter v) M = settled_same M.tickets
  settled-poll_at k (stands i) M = settled_cond M (is_done M i) _ _ (settled-take_back k M) (settled_same M.tickets)
  settled-poll_at k gone M = settled_same M.tickets

  settled-withdraw_at : (k : Option ℕ) (t : Standing T) (M : State T) → Settled M.tickets (cancel_emit_at k t M).1.tickets
  settled-withdraw_at k (waits emitter v) M = settled-take_back k M
  settled-withdraw_at k (stands i) M = settled-take_back k M
  settled-withdraw_at k gone M = settled_same M.tickets

  settled-next_of : (k : ℕ) (vs ps : List T) (M : State T) → Settled M.tickets (next_of k vs ps M).1.tickets
  settled-next_of k [] [] M = settled_same M.tickets
  settled-next_of k (v ∷ vs) ps M = settled_same M.tickets
  settled-next_of k [] (v ∷ ps) M = settled_settle (receive k M)

  settled-next_at : (o : Option (ℕ × Subscription T)) (M : State T) → Settled M.tickets (next_at o M).1.tickets
  settled-next_at None M = settled_same M.tickets
  settled-next_at (Some (k, s)) M = settled-next_of k (rest s) _ M

  settled-cancel_at : (o : Option (ℕ × Subscription T)) (M : State T) → Settled M.tickets (cancel_at o M).1.tickets
  settled-cancel_at None M = settled_same M.tickets
  settled-cancel_at (Some (k, s)) M = settled_settle (close_at k M)

  settled-call : (call : Call T) (M : State T) → Settled M.tickets (step call M).1.tickets
  unfolding try_emit start_emit poll_emit cancel_emit subscribe_with next_value cancel
  settled-call (trying emitter v) M = settled_cond M (numbers_spent M) (Err Spent, M) (try_by (fate M) emitter v M) (settled_same M.tickets) (settled-try_by (fate M) emitter v M)
  settled-call (starting emitter v) M = settled_cond M (numbers_spent M || tickets_spent M) (Err Spent, M) (start_by (fate M) emitter v M) (settled_same M.tickets) (settled-start_by (fate M) emitter v M)
  settled-call (polling n) M = settled-poll_at (index M n) (ticket_at M.tickets (index M n)) M
  settled-call (withdrawing n) M = settled-withdraw_at (index M n) (ticket_at M.tickets (index M n)) M
  settled-call (subscribing prelude) M =
      let made : Result SubId Refusal × State T = (Ok (record { 0 = number M (length M.subscriptions) }), open_next prelude M) in
      let full : Result SubId Refusal × State T = (Err SubscribersFull, M) in
      let is_full = live_count M == M.parameters.subscribers in
      settled_cond M (number M (length M.subscriptions) == number_limit) (Err Spent, M) (cond is_full full made) (settled_same M.tickets) (settled_cond M is_full full made (settled_same M.tickets) (settled_same M.tickets))
  settled-call (receiving n) M = settled-next_at (live_one M n) M
  settled-call (cancelling n) M = settled-cancel_at (live_one M n) M
  settled-call resetting M = settled_same M.tickets
  settled-call counting M = settled_same M.tickets

  -- such a ticket isn't removed any more
  calm_withdraw : (M : State T) (n k : ℕ) (t : Standing T) → slice_get M.tickets k ≡ Some t → does_wait t ≡ false → removes (withdrawing n) (to_withdraw (cancel_emit n M).0) (number M k) ≡ false
  unfolding cancel_emit
  calm_withdraw M n k t gets calm =
      elim (eqb n (number M k)) as (λ b. eqb n (number M k) ≡ b → removes (withdrawing n) (to_withdraw (cancel_emit_at (index M n) (ticket_at M.tickets (index M n)) M).0) (number M k) ≡ false) [
        | true ↦ λ is.
            let same = eqb-true n (number M k) is in
            let there : index M n ≡ Some k = ap (index M) same ∙ index-low M k in
            let stood : ticket_at M.tickets (index M n) ≡ t = ap (ticket_at M.tickets) there ∙ ap or_gone gets in
            calm_reply (index M n) (ticket_at M.tickets (index M n)) (ap does_wait stood ∙ calm)
        | false ↦ λ is. other_reply (index M n) (ticket_at M.tickets (index M n)) is
      ] refl
    where
      calm_reply : (o : Option ℕ) (u : Standing T) → does_wait u ≡ false → removes (withdrawing n) (to_withdraw (cancel_emit_at o u M).0) (number M k) ≡ false
      calm_reply o (waits emitter v) h = absurd (cc)
      calm_reply o (stands i) h = refl
      calm_reply o gone h = refl

      other_reply : (o : Option ℕ) (u : Standing T) → eqb n (number M k) ≡ false → removes (withdrawing n) (to_withdraw (cancel_emit_at o u M).0) (number M k) ≡ false
      other_reply o (waits emitter v) h = h
      other_reply o (stands i) h = refl
      other_reply o gone h = refl

  calm_call : (call : Call T) (M : State T) (k : ℕ) (t : Standing T) → slice_get M.tickets k ≡ Some t → does_wait t ≡ false → removes call (step call M).0 (number M k) ≡ false
  calm_call (trying emitter v) M k t gets calm = refl
  calm_call (starting emitter v) M k t gets calm = refl
  calm_call (polling n) M k t gets calm = refl
  calm_call (withdrawing n) M k t gets calm = calm_withdraw M n k t gets calm
  calm_call (subscribing prelude) M k t gets calm = refl
  calm_call (receiving n) M k t gets calm = refl
  calm_call (cancelling n) M k t gets calm = refl
  calm_call resetting M k t gets calm = refl
  calm_call counting M k t gets calm = refl

  -- ---- lists of calls

  removed_cons : (n : ℕ) (call : Call T) (reply : Reply T) (calls : List (Call T)) (rs : List (Reply T)) → is_removed n (call ∷ calls) (reply ∷ rs) ≡ (removes call reply n || is_removed n calls rs)
  removed_cons n (trying emitter v) reply calls rs = refl
  removed_cons n (starting emitter v) reply calls rs = refl
  removed_cons n (polling m) reply calls rs = refl
  removed_cons n (withdrawing m) (to_withdraw withdrawn.Removed) calls rs = refl
  removed_cons n (withdrawing m) (to_withdraw (withdrawn.Left i)) calls rs = refl
  removed_cons n (withdrawing m) (to_withdraw withdrawn.Gone) calls rs = refl
  removed_cons n (withdrawing m) (to_try answer) calls rs = refl
  removed_cons n (withdrawing m) (to_start answer) calls rs = refl
  removed_cons n (withdrawing m) (to_poll answer) calls rs = refl
  removed_cons n (withdrawing m) (to_subscribe answer) calls rs = refl
  removed_cons n (withdrawing m) (to_receive answer) calls rs = refl
  removed_cons n (withdrawing m) (to_cancel answer) calls rs = refl
  removed_cons n (withdrawing m) to_reset calls rs = refl
  removed_cons n (withdrawing m) (to_count answer) calls rs = refl
  removed_cons n (subscribing prelude) reply calls rs = refl
  removed_cons n (receiving m) reply calls rs = refl
  removed_cons n (cancelling m) reply calls rs = refl
  removed_cons n resetting reply calls rs = refl
  removed_cons n counting reply calls rs = refl

  -- the step of the emissions, for the replies that calls give
  emitted_try : (emitter : ℕ) (v : T) (answer : _) (calls : List (Call T)) (rs : List (Reply T)) → emitted (trying emitter v ∷ calls) (to_try answer ∷ rs) ≡ emits (trying emitter v) (to_try answer) (λ n. is_removed n calls rs) ++ emitted calls rs
  emitted_try emitter v (Ok (tried.Accepted n)) calls rs = refl
  emitted_try emitter v (Ok tried.Dropped) calls rs = refl
  emitted_try emitter v (Ok tried.Full) calls rs = refl
  emitted_try emitter v (Err e) calls rs = refl

  emitted_start : (emitter : ℕ) (v : T) (answer : _) (calls : List (Call T)) (rs : List (Reply T)) → emitted (starting emitter v ∷ calls) (to_start answer ∷ rs) ≡ emits (starting emitter v) (to_start answer) (λ n. is_removed n calls rs) ++ emitted calls rs
  emitted_start emitter v (Ok (begun.Accepted n)) calls rs = refl
  emitted_start emitter v (Ok begun.Dropped) calls rs = refl
  emitted_start emitter v (Ok (begun.Waiting ticket)) calls rs =
      elim (is_removed ticket.0 calls rs) as (λ b. cond b (emitted calls rs) ((emitter, v) ∷ emitted calls rs) ≡ cond b [] ((emitter, v) ∷ []) ++ emitted calls rs) [ true ↦ refl | false ↦ refl ]
  emitted_start emitter v (Err e) calls rs = refl

  emitted_cons : (call : Call T) (M : State T) (calls : List (Call T)) (rs : List (Reply T)) → emitted (call ∷ calls) ((step call M).0 ∷ rs) ≡ emits call (step call M).0 (λ n. is_removed n calls rs) ++ emitted calls rs
  emitted_cons (trying emitter v) M calls rs = emitted_try emitter v (try_emit emitter v M).0 calls rs
  emitted_cons (starting emitter v) M calls rs = emitted_start emitter v (start_emit emitter v M).0 calls rs
  emitted_cons (polling n) M calls rs = refl
  emitted_cons (withdrawing n) M calls rs = refl
  emitted_cons (subscribing prelude) M calls rs = refl
  emitted_cons (receiving n) M calls rs = refl
  emitted_cons (cancelling n) M calls rs = refl
  emitted_cons resetting M calls rs = refl
  emitted_cons counting M calls rs = refl

  -- a ticket that doesn't wait isn't removed by any later call
  unnamed_after : (calls : List (Call T)) (M : State T) (p : ℕ) → M.parameters.first ≡ p → ((N : State T) (call : Call T) → (step call N).1.parameters ≡ N.parameters) → (k : ℕ) (t : Standing T) → slice_get M.tickets k ≡ Some t → does_wait t ≡ false
      → is_removed (p + k) calls (replies calls M) ≡ false
  unnamed_after [] M p first fixed k t gets calm = refl
  unnamed_after (call ∷ calls) M p first fixed k t gets calm =
      let later = settled-call call M k t gets calm in
      let here : removes call (step call M).0 (p + k) ≡ false = ap (λ f. removes call (step call M).0 (f + k)) (sym first) ∙ calm_call call M k t gets calm in
      removed_cons (p + k) call (step call M).0 calls (replies calls (step call M).1)
      ∙ ap (λ b. b || is_removed (p + k) calls (replies calls (step call M).1)) here
      ∙ unnamed_after calls (step call M).1 p (ap (λ q. q.first) (fixed M call) ∙ first) fixed k later.0 later.1 later.2

  order_after : (calls : List (Call T)) (M : State T) → IsQueued M → ((N : State T) (call : Call T) → (step call N).1.parameters ≡ N.parameters)
      → (after calls M).accepted ++ filter_map if_waiting (after calls M).tickets ≡ (M.accepted ++ kept_from (λ k. is_removed (number M k) calls (replies calls M)) 0 M.tickets) ++ emitted calls (replies calls M)
  order_after [] M queued fixed = ap (λ xs. M.accepted ++ xs) (sym (kept-all 0 M.tickets)) ∙ sym (append-nil _)
  order_after (call ∷ calls) M queued fixed =
      let N = (step call M).1 in
      let reply = (step call M).0 in
      let rs = replies calls N in
      let q = λ (n : ℕ). is_removed n calls rs in
      let same = fixed M call in
      let unnamed : Unnamed (λ k. q (number M k)) N.tickets = λ k t gets calm.
      unnamed_after calls N M.parameters.first (ap (λ p. p.first) same) fixed k t gets calm in
      let one = order-call call M queued q unnamed in
      order_after calls N one.queued fixed
      ∙ ap (λ p. (N.accepted ++ kept_from (λ k. is_removed (p.first + k) calls rs) 0 N.tickets) ++ emitted calls rs) same
      ∙ ap (λ xs. xs ++ emitted calls rs) one.order
      ∙ append_assoc (M.accepted ++ kept_from (λ k. removes call reply (number M k) || q (number M k)) 0 M.tickets) (emits call reply q) (emitted calls rs)
      ∙ ap (λ xs. (M.accepted ++ kept_from (λ k. removes call reply (number M k) || q (number M k)) 0 M.tickets) ++ xs) (sym (emitted_cons call M calls rs))
      ∙ ap (λ xs. (M.accepted ++ xs) ++ emitted (call ∷ calls) (reply ∷ rs))
      (kept_same (λ k. removes call reply (number M k) || q (number M k)) (λ k. is_removed (number M k) (call ∷ calls) (reply ∷ rs)) 0 M.tickets (λ k. sym (removed_cons (number M k) call reply calls rs)))

  pub fixed_parameters : OverEvents {T = T} (λ M N. N.parameters ≡ M.parameters)
  fixed_parameters = record {
    quiet = record {
      same = λ M. refl;
      then = λ first second. second ∙ first;
      accepts = λ emitter v M _. refl;
      pushes = λ emitter v M _. refl;
      opens = λ prelude M. refl;
      closes = λ k M. refl;
      tickets = λ M tickets. refl;
    };
    greets = λ k M. refl;
    receives = λ k M. refl;
    resets = λ M. refl;
  }

pub order_law : (T : Type 0) → OrderLaw T
order_law T p calls =
    let none : list_any does_wait (empty {T = T} p).tickets ≡ false = refl in
    let all = order_after calls (empty {T = T} p) (calm_queued (empty p) none) (λ N call. step_over fixed_parameters call N) in (
      all,
      λ e.
          sym (filter-append (λ (x : ℕ × T). x.0 == e) (after calls (empty p)).accepted (filter_map if_waiting (after calls (empty p)).tickets)) ∙ ap (by_emitter e) all,
    )
