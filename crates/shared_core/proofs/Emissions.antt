-- What was accepted and what waits, by the replies and by what contracts see.
use Rattle.std.proofs.Common.{◌≡◌, ℕ, zero, suc, ◌+◌, ◌-◌, Bool, true, false, ◌||◌, cond, List, [], ◌∷◌, ◌++◌, length, take, Option, Some, slice_get, Result, Ok, Err, refl, sym, ap, ◌∙◌, arith, length-append}
use Rattle.std.proofs.Math.Seq.{take-append_seam}
use Rattle.std.proofs.lemmas.Option.{none-some, same_Some, some_pair_parts}
use Rattle.std.specs.List.{filter_map}
use Rattle.flow_terms.specs.declared.refusal.Refusal.{Refusal}
use Rattle.flow_terms.specs.declared.refusal.Refusal.TheVariants.{Spent, EmitsFull}
use Rattle.flow_terms.specs.declared.ids.Ticket.{Ticket}
use Rattle.flow_terms.specs.declared.answers.Begun.TheVariants as begun
use Rattle.shared_core.specs.Flow.{Parameters, State, Standing, waits, stands, gone, empty, accept, lose_oldest, number}
use Rattle.shared_core.specs.Calls.{Fate, enters, pushes_in, handed_over, dropped, held_up, fate, try_by, try_emit, start_by, start_emit, numbers_spent, tickets_spent, Call, trying, starting, polling, withdrawing, subscribing, receiving, cancelling, resetting, counting, Reply, to_try, to_start, replied, step, replies, after}
use Rattle.shared_core.specs.Shown.{out_from, seen_of}
use Rattle.shared_core.specs.Story.{if_waiting, emitted, by_emitter}
use Rattle.shared_core.specs.Headline.{execution_of, accepted, waiting, acceptance, EachEmitterInItsOwnOrder, NumbersCountWhatWasAccepted, OfEveryExecution}
use Rattle.shared_core.proofs.Sequence.{order_law, fixed_parameters}
use Rattle.shared_core.proofs.Walks.{step_over, after_over}
use Rattle.shared_core.proofs.Growing.{growth_law}
use Rattle.shared_core.proofs.Given.{slice_get-append}
use Rattle.shared_core.proofs.Moments.{slice_get-seam}

module _ {T : Type 0} where
  waiting_shown : (n : ℕ) (tickets : List (Standing T)) → filter_map (λ (ticket : ℕ × Standing T). if_waiting ticket.1) (out_from n tickets) ≡ filter_map if_waiting tickets
  waiting_shown n [] = refl
  waiting_shown n (waits emitter v ∷ rest) = ap (λ xs. (emitter, v) ∷ xs) (waiting_shown (n + 1) rest)
  waiting_shown n (stands i ∷ rest) = waiting_shown (n + 1) rest
  waiting_shown n (gone ∷ rest) = waiting_shown (n + 1) rest

  pub waiting_is : (p : Parameters) (calls : List (Call T)) → waiting (execution_of p calls) ≡ filter_map if_waiting (after calls (empty p)).tickets
  unfolding seen_of
  waiting_is p calls = let M = after calls (empty p) in waiting_shown M.parameters.first M.tickets

  pub accepted_is : (p : Parameters) (calls : List (Call T)) → accepted (execution_of p calls) ≡ (after calls (empty p)).accepted
  unfolding seen_of
  accepted_is p calls =
      let M = after calls (empty p) in
      let count : number M (length M.accepted) - M.parameters.first ≡ length M.accepted = omega arith in
      ap (λ n. take n (emitted calls (replies calls (empty p)))) count
      ∙ ap (take (length M.accepted)) (sym (order_law T p calls).0)
      ∙ take-append_seam M.accepted (filter_map if_waiting M.tickets)

pub each_emitter_in_its_own_order : (T : Type 0) → OfEveryExecution T EachEmitterInItsOwnOrder
each_emitter_in_its_own_order T p calls =
    let law = order_law T p calls in
    let A = accepted_is p calls in
    let W = waiting_is p calls in
    record {
      all = ap (λ xs. xs ++ waiting (execution_of p calls)) A ∙ ap (λ ws. (after calls (empty p)).accepted ++ ws) W ∙ law.0;
      of_each = λ e.
          ap (λ xs. by_emitter e xs ++ by_emitter e (waiting (execution_of p calls))) A
          ∙ ap (λ ws. by_emitter e (after calls (empty p)).accepted ++ by_emitter e ws) W
          ∙ law.1 e;
    }

-- ---- numbers

module _ {T : Type 0} where
  -- an emission that is accepted at once is the next of the list
  record Enters (emitter : ℕ) (v : T) (M N : State T) (number : ℕ) : Type 0 where
    named : number ≡ M.parameters.first + length M.accepted
    next : N.accepted ≡ M.accepted ++ (emitter, v) ∷ []

  abbrev EntersBy : Call T → Reply T × State T → State T → Type 0
  EntersBy call answer M = (number : ℕ) (emission : ℕ × T) → acceptance call answer.0 ≡ Some (number, emission) → Enters emission.0 emission.1 M answer.1 number

  enters_now : (call : Call T) (emitter : ℕ) (v : T) (M N : State T) (number : ℕ) (emission : ℕ × T) → N.accepted ≡ M.accepted ++ (emitter, v) ∷ []
      → ◌≡◌ {A = Option (ℕ × (ℕ × T))} (Some (M.parameters.first + length M.accepted, (emitter, v))) (Some (number, emission)) → Enters emission.0 emission.1 M N number
  enters_now call emitter v M N number emission next same =
      let parts = some_pair_parts _ number (emitter, v) emission same in
      record { named = sym parts.0; next = next ∙ ap (λ e. M.accepted ++ e ∷ []) parts.1 }

  enters_try_by : (f : Fate) (emitter : ℕ) (v : T) (M : State T) → EntersBy (trying emitter v) (replied to_try (try_by f emitter v M)) M
  enters_try_by enters emitter v M number emission same = enters_now (trying emitter v) emitter v M (accept emitter v M) number emission refl same
  enters_try_by pushes_in emitter v M number emission same = enters_now (trying emitter v) emitter v M (accept emitter v (lose_oldest M)) number emission refl same
  enters_try_by handed_over emitter v M number emission same = absurd (none-some _ same)
  enters_try_by dropped emitter v M number emission same = absurd (none-some _ same)
  enters_try_by held_up emitter v M number emission same = absurd (none-some _ same)

  enters_wait : (b : Bool) (emitter : ℕ) (v : T) (M N : State T) (ticket : Ticket)
      → let yes : Result (begun.the_data ℕ Ticket) Refusal × State T = (Ok (begun.Waiting ticket), N) in
      let no : Result (begun.the_data ℕ Ticket) Refusal × State T = (Err EmitsFull, M) in
      EntersBy (starting emitter v) (replied to_start (cond b yes no)) M
  enters_wait true emitter v M N ticket number emission same = absurd (none-some _ same)
  enters_wait false emitter v M N ticket number emission same = absurd (none-some _ same)

  enters_start_by : (f : Fate) (emitter : ℕ) (v : T) (M : State T) → EntersBy (starting emitter v) (replied to_start (start_by f emitter v M)) M
  enters_start_by enters emitter v M number emission same = enters_now (starting emitter v) emitter v M (accept emitter v M) number emission refl same
  enters_start_by pushes_in emitter v M number emission same = enters_now (starting emitter v) emitter v M (accept emitter v (lose_oldest M)) number emission refl same
  enters_start_by handed_over emitter v M number emission same = enters_wait _ emitter v M _ _ number emission same
  enters_start_by dropped emitter v M number emission same = absurd (none-some _ same)
  enters_start_by held_up emitter v M number emission same = enters_wait _ emitter v M _ _ number emission same

  entering : (call : Call T) (M : State T) → EntersBy call (step call M) M
  unfolding try_emit start_emit
  entering (trying emitter v) M number emission same =
      elim (numbers_spent M) as (λ b. EntersBy (trying emitter v) (replied to_try (cond b (Err Spent, M) (try_by (fate M) emitter v M))) M) [
        | true ↦ λ number emission same. absurd (none-some _ same)
        | false ↦ enters_try_by (fate M) emitter v M
      ] number emission same
  entering (starting emitter v) M number emission same =
      elim (numbers_spent M || tickets_spent M) as (λ b. EntersBy (starting emitter v) (replied to_start (cond b (Err Spent, M) (start_by (fate M) emitter v M))) M) [
        | true ↦ λ number emission same. absurd (none-some _ same)
        | false ↦ enters_start_by (fate M) emitter v M
      ] number emission same
  entering (polling n) M number emission same = absurd (none-some _ same)
  entering (withdrawing n) M number emission same = absurd (none-some _ same)
  entering (subscribing prelude) M number emission same = absurd (none-some _ same)
  entering (receiving n) M number emission same = absurd (none-some _ same)
  entering (cancelling n) M number emission same = absurd (none-some _ same)
  entering resetting M number emission same = absurd (none-some _ same)
  entering counting M number emission same = absurd (none-some _ same)

  -- the emission of a call in a list, in the list of all that was accepted
  numbered : (calls : List (Call T)) (M : State T) (k : ℕ) (call : Call T) (reply : Reply T) (number : ℕ) (emission : ℕ × T) → acceptance call reply ≡ Some (number, emission)
      → slice_get calls k ≡ Some call → slice_get (replies calls M) k ≡ Some reply
      → (index : ℕ) × (number ≡ M.parameters.first + index) × (slice_get (after calls M).accepted index ≡ Some emission)
  numbered [] M k call reply number emission is called replied = absurd (none-some _ called)
  numbered (this ∷ calls) M zero call reply number emission is called replied =
      let same_call = same_Some this call called in
      let same_reply = same_Some (step this M).0 reply replied in
      let one = entering this M number emission (ap (λ c. acceptance c (step this M).0) same_call ∙ ap (acceptance call) same_reply ∙ is) in
      let later = (growth_law T (step this M).1 calls).accepted in (
        length M.accepted,
        one.named,
        ap (λ xs. slice_get xs (length M.accepted)) later.1
            ∙ slice_get-append (step this M).1.accepted later.0 (length M.accepted) (omega (arith, ap length one.next, length-append M.accepted (emission ∷ [])))
            ∙ ap (λ xs. slice_get xs (length M.accepted)) one.next ∙ slice_get-seam M.accepted emission [],
      )
  numbered (this ∷ calls) M (suc k) call reply number emission is called replied =
      let found = numbered calls (step this M).1 k call reply number emission is called replied in
      (found.0, found.1 ∙ ap (λ p. p.first + found.0) (step_over fixed_parameters this M), found.2)

pub numbers_count_what_was_accepted : (T : Type 0) → OfEveryExecution T NumbersCountWhatWasAccepted
unfolding seen_of
numbers_count_what_was_accepted T p calls call reply number emission is moment =
    let found = numbered calls (empty p) (length moment.before) call reply number emission is
    (ap (λ cs. slice_get cs (length moment.before)) moment.called ∙ slice_get-seam moment.before call moment.later) moment.replied in
    (found.0, found.1 ∙ ap (λ q. q.first + found.0) (sym (after_over fixed_parameters calls (empty p))), ap (λ xs. slice_get xs found.0) (accepted_is p calls) ∙ found.2)
