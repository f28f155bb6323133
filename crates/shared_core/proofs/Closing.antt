-- A closed subscription, or a number that no subscription has, is given nothing.
use Rattle.std.proofs.Common.{◌≡◌, ℕ, zero, suc, ◌+◌, ◌-◌, ◌<◌, ◌≤◌, ◌⊎◌, inl, inr, ⊎_elim, true, false, cond, eqb, List, [], ◌∷◌, ◌++◌, length, Option, Some, None, slice_get, refl, sym, ap, ◌∙◌, subst, arith}
use Rattle.std.proofs.lemmas.Bool.{eqb-true}
use Rattle.std.proofs.lemmas.List.{append-nil}
use Rattle.std.proofs.lemmas.Option.{none-some, same_Some, slice_get_within}
use Rattle.std.specs.List.{fold, range_with_len}
use Rattle.flow_terms.specs.declared.answers.Next.TheVariants as next
use Rattle.shared_core.specs.Flow.{Parameters, State, Standing, waits, stands, gone, Subscription, empty, settle, settle_one, accept, put, has_room, change, close_at, number}
use Rattle.shared_core.specs.Calls.{Call, trying, starting, polling, withdrawing, subscribing, receiving, cancelling, resetting, counting, Reply, to_receive, to_cancel, step, replies, after, next_value, next_at, cancel, cancel_at, live_one}
use Rattle.shared_core.specs.Shown.{seen_of}
use Rattle.shared_core.specs.Story.{given_to}
use Rattle.shared_core.specs.Headline.{execution_of, IsClosedFrom, received, NothingWithoutOpening, OfEveryExecution, until, Cancellation}
use Rattle.shared_core.proofs.Moments.{slice_get-after, replies-append, length-replies, given-append, until_is, answered}
use Rattle.shared_core.proofs.Given.{IsFound, found_one, given_append}
use Rattle.shared_core.proofs.Growing.{growth_law}
use Rattle.shared_core.proofs.Sequence.{fixed_parameters}
use Rattle.shared_core.proofs.Walks.{step_over, after_over, settle_over}

-- the entry that a change is about
pub get_changed : {X : Type 0} (k : ℕ) (f : X → X) (s : X) (xs : List X) → slice_get xs k ≡ Some s → slice_get (change k f xs) k ≡ Some (f s)
get_changed k f s [] gets = absurd (none-some _ gets)
get_changed zero f s (x ∷ xs) gets = ap (λ t. Some (f t)) (same_Some x s gets)
get_changed (suc k) f s (x ∷ xs) gets = get_changed k f s xs gets

module _ {T : Type 0} where
  -- while these calls are made, no subscription with this number is live
  abbrev pub IsOver : ℕ → List (Call T) → State T → Type 0
  IsOver n [] M = Unit {0}
  IsOver n (call ∷ calls) M = (live_one M n ≡ None) × IsOver n calls (step call M).1

  closed_reply : (n : ℕ) (M : State T) → live_one M n ≡ None → (step (receiving n) M).0 ≡ to_receive next.Closed
  unfolding next_value
  closed_reply n M none = ap (λ found. to_receive (next_at found M).0) none

  -- each `next` of it is closed
  pub over_closed : (n : ℕ) (calls : List (Call T)) (M : State T) → IsOver n calls M → (k : ℕ) → slice_get calls k ≡ Some (receiving n) → slice_get (replies calls M) k ≡ Some (to_receive next.Closed)
  over_closed n [] M over k called = absurd (none-some _ called)
  over_closed n (call ∷ calls) M over zero called =
      ap (λ c. Some (step c M).0) (same_Some call (receiving n) called) ∙ ap Some (closed_reply n M over.0)
  over_closed n (call ∷ calls) M over (suc k) called = over_closed n calls (step call M).1 over.1 k called

  given_other : (m n : ℕ) (answer : next.the_data T) → (eqb m n ≡ false) ⊎ (answer ≡ next.Closed) → given_to n (receiving m ∷ []) (to_receive answer ∷ []) ≡ []
  given_other m n (next.Value v) (inl other) = ap (λ b. cond b (v ∷ []) []) other
  given_other m n (next.Value v) (inr closed) = absurd (cc)
  given_other m n next.Nothing why = refl
  given_other m n next.Closed why = refl

  given_one : (n : ℕ) (call : Call T) (M : State T) → live_one M n ≡ None → given_to n (call ∷ []) ((step call M).0 ∷ []) ≡ []
  unfolding next_value
  given_one n (trying emitter v) M none = refl
  given_one n (starting emitter v) M none = refl
  given_one n (polling m) M none = refl
  given_one n (withdrawing m) M none = refl
  given_one n (subscribing prelude) M none = refl
  given_one n (receiving m) M none =
      elim (eqb m n) as (λ b. eqb m n ≡ b → given_to n (receiving m ∷ []) (to_receive (next_value m M).0 ∷ []) ≡ []) [
        | true ↦ λ is. given_other m n (next_value m M).0 (inr (ap (λ i. (next_at (live_one M i) M).0) (eqb-true m n is) ∙ ap (λ found. (next_at found M).0) none))
        | false ↦ λ is. given_other m n (next_value m M).0 (inl is)
      ] refl
  given_one n (cancelling m) M none = refl
  given_one n resetting M none = refl
  given_one n counting M none = refl

  -- it is given nothing
  pub over_given : (n : ℕ) (calls : List (Call T)) (M : State T) → IsOver n calls M → given_to n calls (replies calls M) ≡ []
  over_given n [] M over = refl
  over_given n (call ∷ calls) M over =
      given_append n call (step call M).0 calls (replies calls (step call M).1)
      ∙ ap (λ xs. xs ++ given_to n calls (replies calls (step call M).1)) (given_one n call M over.0)
      ∙ over_given n calls (step call M).1 over.1

  none_found : (M : State T) (n : ℕ) → ((k : ℕ) (s : Subscription T) → IsFound M n k s → ⊥) → live_one M n ≡ None
  none_found M n missing =
      elim (live_one M n) as (λ o. live_one M n ≡ o → o ≡ None) [
        | None ↦ λ _. refl
        | Some (k, s) ↦ λ is. absurd (missing k s (found_one M n k s is))
      ] refl

  -- a closed subscription stays so
  pub over_when_closed : (n : ℕ) (calls : List (Call T)) (M : State T) (k : ℕ) (s : Subscription T) → n ≡ number M k → slice_get M.subscriptions k ≡ Some s → s.live ≡ false → IsOver n calls M
  over_when_closed n [] M k s named gets closed = tt
  over_when_closed n (call ∷ calls) M k s named gets closed =
      let on = (growth_law T M (call ∷ [])).subscriptions k s gets in (
        none_found M n (λ j t found.
            let same : j ≡ k = omega (arith, found.named) in
            let this : t ≡ s = same_Some t s (sym found.gets ∙ ap (slice_get M.subscriptions) same ∙ gets) in
            let lives = found.lives in
            let no : t.live ≡ false = ap (λ (u : Subscription T). u.live) this ∙ closed in cc),
        over_when_closed n calls (step call M).1 k on.0 (named ∙ ap (λ p. p.first + k) (sym (step_over fixed_parameters call M))) on.1
            (ap (λ (u : Subscription T). u.live) (on.2.closed closed) ∙ closed),
      )

  -- nor is there ever a subscription below the first number, or past the last
  pub over_outside : (n : ℕ) (calls : List (Call T)) (M : State T) → (n < M.parameters.first) ⊎ (M.parameters.first + length (after calls M).subscriptions ≤ n) → IsOver n calls M
  over_outside n [] M outside = tt
  over_outside n (call ∷ calls) M outside =
      let fixed = step_over fixed_parameters call M in (
        none_found M n (λ k s found.
            let later = (growth_law T M (call ∷ calls)).subscriptions k s found.gets in
            let within = slice_get_within (after (call ∷ calls) M).subscriptions k later.0 later.1 in
            ⊎_elim (λ below. let named = found.named in omega arith) (λ above. let named = found.named in omega arith) outside),
        over_outside n calls (step call M).1 (subst (λ p. (n < p.first) ⊎ (p.first + length (after (call ∷ calls) M).subscriptions ≤ n)) (sym fixed) outside),
      )

  -- ---- a cancellation

  settle_keeps : (ks : List ℕ) (M : State T) → (fold (λ N k. settle_one k N (slice_get N.tickets k)) M ks).subscriptions ≡ M.subscriptions
  settle_keeps [] M = refl
  settle_keeps (k ∷ ks) M = settle_keeps ks (settle_one k M (slice_get M.tickets k)) ∙ one k M (slice_get M.tickets k)
    where
      one : (k : ℕ) (M : State T) (standing : Option (Standing T)) → (settle_one k M standing).subscriptions ≡ M.subscriptions
      one k M None = refl
      one k M (Some gone) = refl
      one k M (Some (stands i)) = refl
      one k M (Some (waits emitter v)) =
          elim (has_room M) as (λ b. (cond b (put k (stands (length M.accepted)) (accept emitter v M)) M).subscriptions ≡ M.subscriptions) [ true ↦ refl | false ↦ refl ]

  -- settling leaves the subscriptions as they are
  pub settled_subscriptions : (M : State T) → (settle M).subscriptions ≡ M.subscriptions
  unfolding settle
  settled_subscriptions M = settle_keeps (range_with_len 0 (length M.tickets)) M

  -- nothing more is given once a cancel answered true
  over_when_cancelled : (n : ℕ) (later : List (Call T)) (M : State T) → (step (cancelling n) M).0 ≡ to_cancel true → IsOver n later (step (cancelling n) M).1
  unfolding cancel
  over_when_cancelled n later M answered =
      elim (live_one M n) as (λ o. live_one M n ≡ o → ◌≡◌ {A = Reply T} (to_cancel (cancel_at o M).0) (to_cancel true) → IsOver n later (cancel_at o M).1) [
        | None ↦ λ _ no. absurd (cc)
        | Some (k, s) ↦ λ is _.
            let found = found_one M n k s is in
            let N = settle (close_at k M) in
            over_when_closed n later N k (record s { live = false })
            (found.named ∙ ap (λ p. p.first + k) (sym (settle_over fixed_parameters.quiet (close_at k M))))
            (ap (λ xs. slice_get xs k) (settled_subscriptions (close_at k M)) ∙ get_changed k (λ t. record t { live = false }) s M.subscriptions found.gets)
            refl
      ] refl answered

  pub found_by_cancel : (n : ℕ) (M : State T) → (step (cancelling n) M).0 ≡ to_cancel true → (k : ℕ) × (s : Subscription T) × IsFound M n k s
  unfolding cancel
  found_by_cancel n M answered =
      elim (live_one M n) as (λ o. live_one M n ≡ o → ◌≡◌ {A = Reply T} (to_cancel (cancel_at o M).0) (to_cancel true) → (k : ℕ) × (s : Subscription T) × IsFound M n k s) [
        | None ↦ λ _ no. absurd (cc)
        | Some (k, s) ↦ λ is _. (k, s, found_one M n k s is)
      ] refl answered

  closed_after : (n : ℕ) (later : List (Call T)) (M : State T) → IsOver n later (step (cancelling n) M).1 → (j : ℕ) → slice_get (cancelling n ∷ later) j ≡ Some (receiving n)
      → slice_get (replies (cancelling n ∷ later) M) j ≡ Some (to_receive next.Closed)
  closed_after n later M over zero called = absurd (let same = same_Some (cancelling n) (receiving n) called in cc)
  closed_after n later M over (suc j) called = over_closed n later (step (cancelling n) M).1 over j called

pub nothing_more : (T : Type 0) (p : Parameters) (calls : List (Call T)) (n : ℕ) (end : Cancellation (execution_of p calls) n)
    → IsClosedFrom (length end.before) n (execution_of p calls) × (received n (execution_of p calls) ≡ received n (until end))
nothing_more T p calls n end =
    let M = after end.before (empty p) in
    let over = over_when_cancelled n end.later M (answered p calls end) in
    let rest = cancelling n ∷ end.later in (
      λ index from called.
          let j = index - length end.before in
          let at : index ≡ length end.before + j = omega arith in
          let rs = replies end.before (empty p) in
          let in_replies : index ≡ length rs + j = omega (arith, length-replies end.before (empty {T = T} p)) in
          let there : slice_get rest j ≡ Some (receiving n) =
          sym (slice_get-after end.before rest j) ∙ sym (ap (slice_get (end.before ++ rest)) at) ∙ ap (λ cs. slice_get cs index) (sym end.called) ∙ called in
          ap (λ cs. slice_get (replies cs (empty p)) index) end.called
          ∙ ap (λ xs. slice_get xs index) (replies-append end.before rest (empty p))
          ∙ ap (slice_get (rs ++ replies rest M)) in_replies
          ∙ slice_get-after rs (replies rest M) j
          ∙ closed_after n end.later M over j there,
      ap (λ cs. given_to n cs (replies cs (empty p))) end.called
          ∙ given-append n end.before rest (empty p)
          ∙ ap (λ xs. given_to n end.before (replies end.before (empty p)) ++ xs) (over_given n end.later (step (cancelling n) M).1 over)
          ∙ append-nil (given_to n end.before (replies end.before (empty p)))
          ∙ ap (received n) (sym (until_is p calls end)),
    )

pub nothing_without_opening : (T : Type 0) → OfEveryExecution T NothingWithoutOpening
unfolding seen_of
nothing_without_opening T p calls n outside =
    let over = over_outside n calls (empty p) (subst (λ q. (n < q.first) ⊎ (q.first + length (after calls (empty p)).subscriptions ≤ n)) (after_over fixed_parameters calls (empty p)) outside) in
    (λ index from called. over_closed n calls (empty p) over index called, over_given n calls (empty p) over)
