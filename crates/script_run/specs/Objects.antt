-- WHAT THE NAMES OF A SCRIPT STAND FOR, and what each kind answers: read this first.
use Rattle.std.specs.Prelude.{◌≡◌, ℕ, Option, Result, Ok, Err}
use Rattle.flow_buffer.specs.Capacity.{refused_capacity}
use Rattle.flow_terms.specs.declared.policy.Policy.{Policy}
use Rattle.flow_terms.specs.declared.refusal.Refusal.{Refusal}
use Rattle.script_calls.specs.Calls.{Receipts, Emissions, Readings, Settings, Turns}
use Rattle.script_commands.specs.declared.answer.Answer.{Answer}
use Rattle.script_commands.specs.declared.part.Part.{Part}
use Rattle.script_commands.specs.declared.request.Request.{Request}
use Rattle.script_commands.specs.Commands.{Made, Joining}
use Rattle.script_commands.specs.Commands as commands
use Rattle.script_commands.specs.Sources.{Origin}
use Rattle.script_run.specs.declared.buffer.ScriptBuffer.{ScriptBuffer}
use Rattle.script_run.specs.declared.object.Object.{Object}
use Rattle.script_run.specs.declared.object.Object.TheVariants as objects
use Rattle.script_run.specs.declared.sourced.Sourced.{Sourced}
use Rattle.script_run.specs.Buffered.{AsksBuffer, MadeUnless, ShowsBuffer}
use Rattle.script_run.specs.Buffers.{begun}
use Rattle.script_run.specs.Flows.{AsksFlow, JoinsFlow}
use Rattle.script_run.specs.Replied.{Joined, NoAnswer}
use Rattle.script_run.specs.Sources.{AsksShare, AsksStated, JoinsShare, JoinsStated}
use Rattle.script_run.specs.States.{AsksState, JoinsState}
use Rattle.script_words.specs.Starts.{Starting}

-- ---- making

-- what was made, as an object
abbrev pub as_object : {A O : Type 0} → (A → O) → Result A Refusal → Result O Refusal
as_object kind (Ok made) = Ok (kind made)
as_object kind (Err refusal) = Err refusal

-- the maker's reply is the result
abbrev pub Makes : {A O : Type 0} → (Result A Refusal → Type 0) → (A → O) → Result O Refusal → Type 0
Makes {A} maker kind result = (reply : Result A Refusal) × maker reply × (result ≡ as_object kind reply)

module _ {F S L H K : Type 0}
    (flows : ℕ → ℕ → Policy → Result F Refusal → Type 0)
    (states : ℕ → Result S Refusal → Type 0)
    (shares : ℕ → ℕ → Policy → Starting → Origin → Result (Sourced L H) Refusal → Type 0)
    (stateds : ℕ → Starting → Origin → Result (Sourced S K) Refusal → Type 0) where
  -- WHAT A LINE MAKES: a maker is called with the line's numbers, once
  abbrev pub MakesObject : Made → Result (Object F S L H K) Refusal → Type 0
  MakesObject (commands.shared replay extra policy) result = Makes (flows replay extra policy) objects.Flow result
  MakesObject (commands.state value) result = Makes (states value) objects.State result
  MakesObject (commands.buffer capacity policy origin) result =
      Makes (λ reply. MadeUnless (refused_capacity capacity) reply (λ made. ShowsBuffer made (begun capacity policy origin))) objects.Buffer result
  MakesObject (commands.share replay extra policy starting origin) result = Makes (shares replay extra policy starting origin) objects.Share result
  MakesObject (commands.stated value starting origin) result = Makes (stateds value starting origin) objects.Stated result

-- ---- asking and joining

-- an object of this kind stays one of it, and this is so of it
abbrev pub Keeps : {A O : Type 0} → (A → O) → (A → Type 0) → O → Type 0
Keeps {A} kind holds new = (after : A) × holds after × (new ≡ kind after)

module _ {F S L H K : Type 0}
    (receipts : Receipts F) (emissions : Emissions F)
    (readings : Readings S) (settings : Settings S)
    (share_receipts : Receipts L) (share_turns : Turns H) (stated_turns : Turns K) where
  -- WHAT AN OBJECT ANSWERS to a command to this part, and what that leaves of it
  abbrev pub AsksObject : Part → Request → Object F S L H K → Option Answer → Object F S L H K → Type 0
  AsksObject part request (objects.Flow flow) answer new = Keeps objects.Flow (λ after. AsksFlow receipts emissions part request flow answer after) new
  AsksObject part request (objects.State state) answer new = Keeps objects.State (λ after. AsksState readings settings part request state answer after) new
  AsksObject part request (objects.Share share) answer new = Keeps objects.Share (λ after. AsksShare share_receipts share_turns part request share answer after) new
  AsksObject part request (objects.Stated stated) answer new = Keeps objects.Stated (λ after. AsksStated readings stated_turns part request stated answer after) new
  AsksObject part request (objects.Buffer buffer) answer new = Keeps objects.Buffer (λ after. AsksBuffer part request buffer answer after) new

module _ {F S L H K : Type 0} (receipts : Receipts F) (emissions : Emissions F) (readings : Readings S) (share_receipts : Receipts L) where
  -- WHO JOINS AN OBJECT at this part, and what that leaves of it
  abbrev pub JoinsObject : Part → Joining → Object F S L H K → Option Joined → Object F S L H K → Type 0
  JoinsObject part joining (objects.Flow flow) joined new = Keeps objects.Flow (λ after. JoinsFlow receipts emissions part joining flow joined after) new
  JoinsObject part joining (objects.State state) joined new = Keeps objects.State (λ after. JoinsState readings part joining state joined after) new
  JoinsObject part joining (objects.Share share) joined new = Keeps objects.Share (λ after. JoinsShare share_receipts part joining share joined after) new
  JoinsObject part joining (objects.Stated stated) joined new = Keeps objects.Stated (λ after. JoinsStated readings part joining stated joined after) new
  JoinsObject part joining (objects.Buffer buffer) joined new = NoAnswer (objects.Buffer buffer) joined new
