-- A program's execution grows by each call that it makes, and is at each moment the model's execution of its calls, of which the headline holds.
use Rattle.std.proofs.Common.{◌≡◌, ℕ, cond, Bool, List, [], ◌∷◌, ◌++◌, length, Result, refl, sym, ap, ◌∙◌, subst, arith, append_assoc}
use Rattle.std.proofs.lemmas.Bool.{eq-eqb}
use Rattle.flow_terms.specs.declared.refusal.Refusal.{Refusal}
use Rattle.flow_terms.specs.declared.ids.SubId.{SubId}
use Rattle.flow_terms.specs.declared.ids.Ticket.{Ticket}
use Rattle.flow_terms.specs.declared.answers.Tried.{Tried}
use Rattle.flow_terms.specs.declared.answers.Begun.{Begun}
use Rattle.flow_terms.specs.declared.answers.Emit.{Emit}
use Rattle.flow_terms.specs.declared.answers.Withdrawn.{Withdrawn}
use Rattle.flow_terms.specs.declared.answers.Next.{Next}
use Rattle.flow_terms.specs.declared.answers.Next.TheVariants as next
use Rattle.shared_core.specs.Flow.{Parameters, empty, live_count}
use Rattle.shared_core.specs.Calls as calls
use Rattle.shared_core.specs.Calls.{Call, trying, starting, polling, withdrawing, subscribing, receiving, cancelling, resetting, counting, Reply, to_try, to_start, to_poll, to_withdraw, to_subscribe, to_receive, to_cancel, to_reset, to_count, step, replies, after}
use Rattle.shared_core.specs.Shown.{Seen, seen_of, Shows, Follows, Reads, Leaves}
use Rattle.shared_core.specs.Story.{given_to}
use Rattle.shared_core.specs.Headline.{Execution, execution_of, received, Headline}
use Rattle.shared_core.specs.Made.{IsExecutionOf, execution_begun, and_then}
use Rattle.shared_core.proofs.Bounded.{at_most_its_places_pending, none_waits_beside_room}
use Rattle.shared_core.proofs.Caching.{caches_the_latest}
use Rattle.shared_core.proofs.Closing.{nothing_without_opening}
use Rattle.shared_core.proofs.Emissions.{each_emitter_in_its_own_order, numbers_count_what_was_accepted}
use Rattle.shared_core.proofs.Given.{given_append}
use Rattle.shared_core.proofs.Moments.{after-append, replies-append, length-replies}
use Rattle.shared_core.proofs.Receiving.{each_live_was_opened, each_receives_prelude_cache_then_later, live_until_cancelled, nothing_after_cancellation}

module _ {T : Type 0} where
  -- the headline holds of it
  pub headline_of : (p : Parameters) (execution : Execution T) → IsExecutionOf p execution → Headline execution
  headline_of p execution is =
      subst Headline (sym is)
      record {
        each_receives_prelude_cache_then_later = each_receives_prelude_cache_then_later T p execution.calls;
        each_emitter_in_its_own_order = each_emitter_in_its_own_order T p execution.calls;
        numbers_count_what_was_accepted = numbers_count_what_was_accepted T p execution.calls;
        each_live_was_opened = each_live_was_opened T p execution.calls;
        live_until_cancelled = live_until_cancelled T p execution.calls;
        nothing_after_cancellation = nothing_after_cancellation T p execution.calls;
        nothing_without_opening = nothing_without_opening T p execution.calls;
        at_most_its_places_pending = at_most_its_places_pending T p execution.calls;
        none_waits_beside_room = none_waits_beside_room T p execution.calls;
        caches_the_latest = caches_the_latest T p execution.calls;
      }

  -- the flow that it leaves shows the model's state after its calls
  pub execution_shows : (p : Parameters) (execution : Execution T) → IsExecutionOf p execution → Shows execution.seen (after execution.calls (empty p))
  execution_shows p execution is = record { reached = (p, execution.calls, refl); same = ap (λ (r : Execution T). r.seen) is }

  pub begun_execution : (p : Parameters) (flow : Seen T) → Shows flow (empty p) → IsExecutionOf p (execution_begun flow)
  begun_execution p flow shows = ap (λ (seen : Seen T). execution_begun seen) shows.same

  -- ---- one call more

  pub one_more : (p : Parameters) (execution : Execution T) (call : Call T) (reply : Reply T) (new : Seen T) → IsExecutionOf p execution → Follows (step call) execution.seen reply new → IsExecutionOf p (and_then execution call reply new)
  one_more p execution call reply new is follows =
      let M = after execution.calls (empty p) in
      let so = follows M (execution_shows p execution is) in
      let all : execution.replies ++ reply ∷ [] ≡ replies (execution.calls ++ call ∷ []) (empty p) =
      ap (λ (r : Execution T). r.replies ++ reply ∷ []) is ∙ ap (λ r. replies execution.calls (empty p) ++ r ∷ []) so.0 ∙ sym (replies-append execution.calls (call ∷ []) (empty p)) in
      let last : new ≡ seen_of (after (execution.calls ++ call ∷ []) (empty p)) = so.1.same ∙ ap seen_of (sym (after-append execution.calls (call ∷ []) (empty p))) in
      let made : Execution T = and_then execution call reply new in
      ap (λ rs. record made { replies = rs }) all ∙ ap (λ seen. record (execution_of p (execution.calls ++ call ∷ [])) { seen = seen }) last

  module _ (p : Parameters) (execution : Execution T) (new : Seen T) (is : IsExecutionOf p execution) where
    pub after_try : (emitter : ℕ) (v : T) (result : Result (Tried ℕ) Refusal) → Follows (calls.try_emit emitter v) execution.seen result new → IsExecutionOf p (and_then execution (trying emitter v) (to_try result) new)
    after_try emitter v result follows = one_more p execution (trying emitter v) (to_try result) new is (λ M shows. let so = follows M shows in (ap (λ a. to_try a) so.0, so.1))

    pub after_start : (emitter : ℕ) (v : T) (result : Result (Begun ℕ Ticket) Refusal) → Follows (calls.start_emit emitter v) execution.seen result new → IsExecutionOf p (and_then execution (starting emitter v) (to_start result) new)
    after_start emitter v result follows = one_more p execution (starting emitter v) (to_start result) new is (λ M shows. let so = follows M shows in (ap (λ a. to_start a) so.0, so.1))

    pub after_poll : (ticket : ℕ) (result : Emit) → Follows (calls.poll_emit ticket) execution.seen result new → IsExecutionOf p (and_then execution (polling ticket) (to_poll result) new)
    after_poll ticket result follows = one_more p execution (polling ticket) (to_poll result) new is (λ M shows. let so = follows M shows in (ap (λ a. to_poll a) so.0, so.1))

    pub after_withdrawal : (ticket : ℕ) (result : Withdrawn ℕ) → Follows (calls.cancel_emit ticket) execution.seen result new → IsExecutionOf p (and_then execution (withdrawing ticket) (to_withdraw result) new)
    after_withdrawal ticket result follows = one_more p execution (withdrawing ticket) (to_withdraw result) new is (λ M shows. let so = follows M shows in (ap (λ a. to_withdraw a) so.0, so.1))

    pub after_subscribe_with : (prelude : List T) (result : Result SubId Refusal) → Follows (calls.subscribe_with prelude) execution.seen result new → IsExecutionOf p (and_then execution (subscribing prelude) (to_subscribe result) new)
    after_subscribe_with prelude result follows = one_more p execution (subscribing prelude) (to_subscribe result) new is (λ M shows. let so = follows M shows in (ap (λ a. to_subscribe a) so.0, so.1))

    pub after_subscribe : (result : Result SubId Refusal) → Follows calls.subscribe execution.seen result new → IsExecutionOf p (and_then execution (subscribing []) (to_subscribe result) new)
    after_subscribe result follows = after_subscribe_with [] result follows

    pub after_next : (n : ℕ) (result : Next T) → Follows (calls.next_value n) execution.seen result new → IsExecutionOf p (and_then execution (receiving n) (to_receive result) new)
    after_next n result follows = one_more p execution (receiving n) (to_receive result) new is (λ M shows. let so = follows M shows in (ap (λ a. to_receive a) so.0, so.1))

    pub after_cancel : (n : ℕ) (result : Bool) → Follows (calls.cancel n) execution.seen result new → IsExecutionOf p (and_then execution (cancelling n) (to_cancel result) new)
    after_cancel n result follows = one_more p execution (cancelling n) (to_cancel result) new is (λ M shows. let so = follows M shows in (ap (λ a. to_cancel a) so.0, so.1))

    pub after_reset : Leaves calls.reset execution.seen new → IsExecutionOf p (and_then execution resetting to_reset new)
    after_reset leaves = one_more p execution resetting to_reset new is (λ M shows. (refl, leaves M shows))

  pub after_count : (p : Parameters) (execution : Execution T) → IsExecutionOf p execution → (result : ℕ) → Reads live_count execution.seen result → IsExecutionOf p (and_then execution counting (to_count result) execution.seen)
  after_count p execution is result reads = one_more p execution counting (to_count result) execution.seen is (λ M shows. (ap (λ a. to_count a) (reads M shows), shows))

  -- ---- what a subscription received

  given-seam : (n : ℕ) (before : List (Call T)) (answered : List (Reply T)) (call : Call T) (reply : Reply T) → length answered ≡ length before
      → given_to n (before ++ call ∷ []) (answered ++ reply ∷ []) ≡ given_to n before answered ++ given_to n (call ∷ []) (reply ∷ [])
  given-seam n [] [] call reply same = refl
  given-seam n [] (r ∷ rs) call reply same = absurd (omega (arith, same))
  given-seam n (c ∷ cs) [] call reply same = absurd (omega (arith, same))
  given-seam n (c ∷ cs) (r ∷ rs) call reply same =
      given_append n c r (cs ++ call ∷ []) (rs ++ reply ∷ [])
      ∙ ap (λ xs. given_to n (c ∷ []) (r ∷ []) ++ xs) (given-seam n cs rs call reply (omega (arith, same)))
      ∙ sym (append_assoc (given_to n (c ∷ []) (r ∷ [])) (given_to n cs rs) (given_to n (call ∷ []) (reply ∷ [])))
      ∙ ap (λ xs. xs ++ given_to n (call ∷ []) (reply ∷ [])) (sym (given_append n c r cs rs))

  -- what the reply gave comes last
  pub received_then : (p : Parameters) (execution : Execution T) (n : ℕ) (call : Call T) (reply : Reply T) (new : Seen T) → IsExecutionOf p execution
      → received n (and_then execution call reply new) ≡ received n execution ++ given_to n (call ∷ []) (reply ∷ [])
  received_then p execution n call reply new is =
      given-seam n execution.calls execution.replies call reply (ap (λ (r : Execution T). length r.replies) is ∙ length-replies execution.calls (empty p))

  pub received_value : (p : Parameters) (execution : Execution T) (n : ℕ) (v : T) (new : Seen T) → IsExecutionOf p execution → received n (and_then execution (receiving n) (to_receive (next.Value v)) new) ≡ received n execution ++ v ∷ []
  received_value p execution n v new is =
      received_then p execution n (receiving n) (to_receive (next.Value v)) new is ∙ ap (λ b. received n execution ++ cond b (v ∷ []) []) (eq-eqb n n refl)
