-- What is answered by the states of a script, and who joins them.
use Rattle.std.specs.Prelude.{◌≡◌, Option, Some, None}
use Rattle.script_calls.specs.Calls.{Readings, Settings}
use Rattle.script_commands.specs.declared.answer.Answer.{Answer}
use Rattle.script_commands.specs.declared.answer.Answer.TheVariants as answers
use Rattle.script_commands.specs.declared.part.Part.{Part}
use Rattle.script_commands.specs.declared.part.Part.TheVariants.{Whole, Subscription}
use Rattle.script_commands.specs.declared.request.Request.{Request}
use Rattle.script_commands.specs.declared.request.Request.TheVariants as requests
use Rattle.script_commands.specs.Commands.{Joining}
use Rattle.script_commands.specs.Commands as commands
use Rattle.script_commands.specs.Parts.{subscription_in}
use Rattle.script_commands.specs.Replies.{subscribe_answer, next_answer, cancel_answer}
use Rattle.script_run.specs.Replied.{Joined, Replied, Joins, NoAnswer}

module _ {S : Type 0} (readings : Readings S) where
  -- what any state answers
  abbrev pub AsksRead : Part → Request → S → Option Answer → S → Type 0
  AsksRead Whole requests.Value old answer new = Replied readings.Reads answers.Value old answer new
  AsksRead Whole requests.Count old answer new = Replied readings.Counts answers.Number old answer new
  AsksRead (Subscription id) requests.Next old answer new = Replied (λ before reply after. readings.Nexts before id reply after) next_answer old answer new
  AsksRead (Subscription id) requests.Cancel old answer new = Replied (λ before reply after. readings.Cancels before id reply after) cancel_answer old answer new
  AsksRead part request old answer new = NoAnswer old answer new

  -- WHO JOINS A STATE
  abbrev pub JoinsState : Part → Joining → S → Option Joined → S → Type 0
  JoinsState Whole commands.collector old joined new = Joins readings.Collects subscribe_answer subscription_in old joined new
  JoinsState part joining old joined new = NoAnswer old joined new

  module _ (settings : Settings S) where
    -- WHAT A STATE ANSWERS that a script sets
    abbrev pub AsksState : Part → Request → S → Option Answer → S → Type 0
    AsksState Whole (requests.Set value) old answer new = settings.Sets old value new × (answer ≡ Some answers.Ok)
    AsksState Whole (requests.CompareAndSet expect update) old answer new =
        Replied (λ before reply after. settings.Compares before expect update reply after) answers.Truth old answer new
    AsksState part request old answer new = AsksRead part request old answer new
