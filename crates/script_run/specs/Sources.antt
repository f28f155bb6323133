-- What is answered by what shares a source of a script. Either a tick is told to the source, and who knows what is shown does nothing;
-- or a call is made on what is shown, and the sharing of the source stays as it was.
use Rattle.std.specs.Prelude.{◌≡◌, ℕ, Option}
use Rattle.script_calls.specs.Calls.{Receipts, Readings, Turns}
use Rattle.script_commands.specs.declared.answer.Answer.{Answer}
use Rattle.script_commands.specs.declared.part.Part.{Part}
use Rattle.script_commands.specs.declared.part.Part.TheVariants.{Whole}
use Rattle.script_commands.specs.declared.request.Request.{Request}
use Rattle.script_commands.specs.declared.request.Request.TheVariants as requests
use Rattle.script_commands.specs.Commands.{Joining}
use Rattle.script_commands.specs.Replies.{tick_answer}
use Rattle.script_run.specs.declared.sourced.Sourced.{Sourced}
use Rattle.script_run.specs.Flows.{AsksShared, JoinsShared}
use Rattle.script_run.specs.States.{AsksRead, JoinsState}
use Rattle.script_run.specs.Replied.{Joined, Replied}

module _ {V H : Type 0} where
  abbrev pub AsksTick : Turns H → ℕ → Sourced V H → Option Answer → Sourced V H → Type 0
  AsksTick turns now old answer new = Replied (λ before reply after. turns.Ticks before now reply after) tick_answer old.source answer new.source
      × (new.shown ≡ old.shown)

  -- WHAT A SHARED FLOW ANSWERS that shares a source
  abbrev pub AsksShare : Receipts V → Turns H → Part → Request → Sourced V H → Option Answer → Sourced V H → Type 0
  AsksShare receipts turns Whole (requests.Tick now) old answer new = AsksTick turns now old answer new
  AsksShare receipts turns part request old answer new = AsksShared receipts part request old.shown answer new.shown × (new.source ≡ old.source)

  -- WHAT A STATE ANSWERS that is set from a source: no command sets it
  abbrev pub AsksStated : Readings V → Turns H → Part → Request → Sourced V H → Option Answer → Sourced V H → Type 0
  AsksStated readings turns Whole (requests.Tick now) old answer new = AsksTick turns now old answer new
  AsksStated readings turns part request old answer new = AsksRead readings part request old.shown answer new.shown × (new.source ≡ old.source)

  -- WHO JOINS THEM
  abbrev pub JoinsShare : Receipts V → Part → Joining → Sourced V H → Option Joined → Sourced V H → Type 0
  JoinsShare receipts part joining old joined new = JoinsShared receipts part joining old.shown joined new.shown × (new.source ≡ old.source)

  abbrev pub JoinsStated : Readings V → Part → Joining → Sourced V H → Option Joined → Sourced V H → Type 0
  JoinsStated readings part joining old joined new = JoinsState readings part joining old.shown joined new.shown × (new.source ≡ old.source)
