-- What is answered by the shared flows of a script, and who joins them.
use Rattle.std.specs.Prelude.{◌≡◌, ℕ, List, Option, Some, None, Result, Err}
use Rattle.flow_terms.specs.declared.refusal.Refusal.{Refusal}
use Rattle.flow_terms.specs.declared.ids.SubId.{SubId}
use Rattle.script_calls.specs.Calls.{Receipts, Emissions}
use Rattle.script_commands.specs.declared.answer.Answer.{Answer}
use Rattle.script_commands.specs.declared.answer.Answer.TheVariants as answers
use Rattle.script_commands.specs.declared.part.Part.{Part}
use Rattle.script_commands.specs.declared.part.Part.TheVariants.{Whole, Subscription, InFlight, Finished}
use Rattle.script_commands.specs.declared.request.Request.{Request}
use Rattle.script_commands.specs.declared.request.Request.TheVariants as requests
use Rattle.script_commands.specs.Commands.{Joining}
use Rattle.script_commands.specs.Commands as commands
use Rattle.script_commands.specs.Parts.{subscription_in, emission_in}
use Rattle.script_commands.specs.Replies.{try_answer, emit_answer, poll_answer, withdraw_answer, subscribe_answer, next_answer, cancel_answer, cache_answer}
use Rattle.script_run.specs.Preludes.{prelude_refusal}
use Rattle.script_run.specs.Replied.{Joined, Replied, Joins, NoAnswer}

module _ {S : Type 0} (receipts : Receipts S) where
  -- what any shared flow answers
  abbrev pub AsksShared : Part → Request → S → Option Answer → S → Type 0
  AsksShared Whole requests.Cache old answer new = Replied receipts.Caches cache_answer old answer new
  AsksShared Whole requests.Count old answer new = Replied receipts.Counts answers.Number old answer new
  AsksShared (Subscription id) requests.Next old answer new = Replied (λ before reply after. receipts.Nexts before id reply after) next_answer old answer new
  AsksShared (Subscription id) requests.Cancel old answer new = Replied (λ before reply after. receipts.Cancels before id reply after) cancel_answer old answer new
  AsksShared part request old answer new = NoAnswer old answer new

  -- one subscribes with these numbers, unless they are refused for this reason
  abbrev pub SubscribesUnless : Option Refusal → List ℕ → S → Result SubId Refusal → S → Type 0
  SubscribesUnless (Some refusal) numbers old reply new = (reply ≡ Err refusal) × (new ≡ old)
  SubscribesUnless None numbers old reply new = receipts.Subscribes old numbers reply new

  -- who joins any shared flow
  abbrev pub JoinsShared : Part → Joining → S → Option Joined → S → Type 0
  JoinsShared Whole (commands.subscription numbers) old joined new =
      Joins (λ before reply after. SubscribesUnless (prelude_refusal numbers) numbers before reply after) subscribe_answer subscription_in old joined new
  JoinsShared part joining old joined new = NoAnswer old joined new

  module _ (emissions : Emissions S) where
    -- WHAT A SHARED FLOW ANSWERS into which a script emits. An emission that was finished at once is known no more
    abbrev pub AsksFlow : Part → Request → S → Option Answer → S → Type 0
    AsksFlow Whole (requests.Try value) old answer new = Replied (λ before reply after. emissions.Tries before value reply after) try_answer old answer new
    AsksFlow Whole requests.Reset old answer new = emissions.Resets old new × (answer ≡ Some answers.Ok)
    AsksFlow (InFlight ticket) requests.Poll old answer new = Replied (λ before reply after. emissions.Polls before ticket reply after) poll_answer old answer new
    AsksFlow (InFlight ticket) requests.Withdraw old answer new = Replied (λ before reply after. emissions.Withdraws before ticket reply after) withdraw_answer old answer new
    AsksFlow Finished requests.Poll old answer new = (answer ≡ Some answers.Gone) × (new ≡ old)
    AsksFlow Finished requests.Withdraw old answer new = (answer ≡ Some answers.Gone) × (new ≡ old)
    AsksFlow part request old answer new = AsksShared part request old answer new

    -- WHO JOINS IT
    abbrev pub JoinsFlow : Part → Joining → S → Option Joined → S → Type 0
    JoinsFlow Whole (commands.emission value) old joined new =
        Joins (λ before reply after. emissions.Begins before value reply after) emit_answer emission_in old joined new
    JoinsFlow part joining old joined new = JoinsShared part joining old joined new
