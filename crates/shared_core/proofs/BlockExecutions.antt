-- A program's execution grows by each block of calls that it makes.
use Rattle.std.proofs.Common.{◌≡◌, ℕ, zero, suc, ◌+◌, List, [], ◌∷◌, ◌++◌, map, take, Result, Ok, Err, refl, sym, ap, ◌∙◌, subst, arith}
use Rattle.flow_terms.specs.declared.refusal.Refusal.{Refusal}
use Rattle.flow_terms.specs.declared.answers.Tried.{Tried}
use Rattle.flow_terms.specs.declared.answers.Tried.TheVariants as tried
use Rattle.flow_terms.specs.declared.answers.Next.{Next}
use Rattle.flow_terms.specs.declared.answers.Next.TheVariants.{Value, Nothing, Closed}
use Rattle.shared_core.specs.Flow.{Parameters, State, empty}
use Rattle.shared_core.specs.Calls.{Call, Reply, trying, receiving, step, replies, after, try_emit, next_value}
use Rattle.shared_core.specs.Blocks.{one_more, tried_on, try_emit_all, one_before, received_on, next_all, tries_made, tries, receipts_of, receipts, and_then_all}
use Rattle.shared_core.specs.Shown.{Seen, seen_of, Shows, Follows}
use Rattle.shared_core.specs.Headline.{Execution, execution_of}
use Rattle.shared_core.specs.Made.{IsExecutionOf}
use Rattle.shared_core.proofs.Continuing.{execution_shows}
use Rattle.shared_core.proofs.Moments.{after-append}

module _ {T : Type 0} where
  -- so many calls more
  many_more : (p : Parameters) (execution : Execution T) (more : List (Call T)) (new : Seen T) → IsExecutionOf p execution
      → Shows new (after more (after execution.calls (empty p))) → IsExecutionOf p (and_then_all p execution more new)
  many_more p execution more new is shows =
      let last : new ≡ seen_of (after (execution.calls ++ more) (empty p)) = shows.same ∙ ap seen_of (sym (after-append execution.calls more (empty p))) in
      ap (λ seen. record (execution_of p (execution.calls ++ more)) { seen = seen }) last

  -- what a block leaves is what its tries leave
  one_try_more : (emitter : ℕ) (values : List T) (v : T) (M N : State T) (end : Result ℕ Refusal × State T)
      → end.1 ≡ after (tries emitter values end.0) N → N ≡ (step (trying emitter v) M).1
      → (one_more end).1 ≡ after (tries emitter (v ∷ values) (one_more end).0) M
  one_try_more emitter values v M N (Ok count, E) same left =
      let next : count + 1 ≡ suc count = omega arith in
      same ∙ ap (after (map (trying emitter) (take (suc count) values))) left ∙ ap (λ i. after (map (trying emitter) (take (suc i) (v ∷ values))) M) (sym next)
  one_try_more emitter values v M N (Err refusal, E) same left = same ∙ ap (after (map (trying emitter) (take 1 values))) left

  tried_then : (emitter : ℕ) (values : List T) (v : T) (M : State T) (answer : Result (Tried ℕ) Refusal × State T)
      → ((N : State T) → (try_emit_all emitter values N).1 ≡ after (tries emitter values (try_emit_all emitter values N).0) N)
      → answer.1 ≡ (step (trying emitter v) M).1
      → (tried_on answer (try_emit_all emitter values)).1 ≡ after (tries emitter (v ∷ values) (tried_on answer (try_emit_all emitter values)).0) M
  tried_then emitter values v M (Ok (tried.Accepted n), N) rest left = one_try_more emitter values v M N (try_emit_all emitter values N) (rest N) left
  tried_then emitter values v M (Ok tried.Dropped, N) rest left = left
  tried_then emitter values v M (Ok tried.Full, N) rest left = left
  tried_then emitter values v M (Err refusal, N) rest left = left

  pub block_is_tries : (emitter : ℕ) (values : List T) (M : State T) → (try_emit_all emitter values M).1 ≡ after (tries emitter values (try_emit_all emitter values M).0) M
  block_is_tries emitter [] M = refl
  block_is_tries emitter (v ∷ values) M = tried_then emitter values v M (try_emit emitter v M) (block_is_tries emitter values) refl

  -- what it leaves is what its receipts leave
  one_receipt_more : (n room : ℕ) (v : T) (M N : State T) (end : (Next ℕ × List T) × State T)
      → end.1 ≡ after (receipts n room end.0.0) N → N ≡ (step (receiving n) M).1
      → (one_before v end).1 ≡ after (receipts n (suc room) (one_before v end).0.0) M
  one_receipt_more n room v M N ((Value count, values), E) same left =
      let next : suc count ≡ count + 1 = omega arith in
      same ∙ ap (after (receipts_of n room count)) left ∙ ap (λ i. after (receipts_of n (suc room) i) M) next
  one_receipt_more n room v M N ((Nothing, values), E) same left = same ∙ ap (after (receipts_of n room 0)) left
  one_receipt_more n room v M N ((Closed, values), E) same left = same ∙ ap (after (receipts_of n room 0)) left

  received_then : (n room : ℕ) (M : State T) (answer : Next T × State T)
      → ((N : State T) → (next_all n room N).1 ≡ after (receipts n room (next_all n room N).0.0) N)
      → answer.1 ≡ (step (receiving n) M).1
      → (received_on answer (next_all n room)).1 ≡ after (receipts n (suc room) (received_on answer (next_all n room)).0.0) M
  received_then n room M (Value v, N) rest left = one_receipt_more n room v M N (next_all n room N) (rest N) left
  received_then n room M (Nothing, N) rest left = left
  received_then n room M (Closed, N) rest left = left

  pub block_is_receipts : (n room : ℕ) (M : State T) → (next_all n room M).1 ≡ after (receipts n room (next_all n room M).0.0) M
  block_is_receipts n zero M = refl
  block_is_receipts n (suc room) M = received_then n room M (next_value n M) (block_is_receipts n room) refl

  module _ (p : Parameters) (execution : Execution T) (new : Seen T) (is : IsExecutionOf p execution) where
    pub after_tries : (emitter : ℕ) (values : List T) (result : Result ℕ Refusal) → Follows (try_emit_all emitter values) execution.seen result new
        → IsExecutionOf p (and_then_all p execution (tries emitter values result) new)
    after_tries emitter values result follows =
        let M = after execution.calls (empty p) in
        let so = follows M (execution_shows p execution is) in
        let shows : Shows new (after (tries emitter values result) M) =
        subst (Shows new) (block_is_tries emitter values M ∙ ap (λ r. after (tries emitter values r) M) (sym so.0)) so.1 in
        many_more p execution (tries emitter values result) new is shows

    pub after_receipts : (n room : ℕ) (answer : Next ℕ) (values : List T) → Follows (next_all n room) execution.seen (answer, values) new
        → IsExecutionOf p (and_then_all p execution (receipts n room answer) new)
    after_receipts n room answer values follows =
        let M = after execution.calls (empty p) in
        let so = follows M (execution_shows p execution is) in
        let shows : Shows new (after (receipts n room answer) M) =
        subst (Shows new) (block_is_receipts n room M ∙ ap (λ r. after (receipts n room r.0) M) (sym so.0)) so.1 in
        many_more p execution (receipts n room answer) new is shows
