-- What follows for a script whose objects are flows and states that show their models, buffers, and whatever else.
use Rattle.std.proofs.Common.{ℕ, List, Option, Result, Vec}
use Rattle.flow_terms.specs.declared.policy.Policy.{Policy}
use Rattle.flow_terms.specs.declared.refusal.Refusal.{Refusal}
use Rattle.flow_terms.specs.declared.started.Started.{Started}
use Rattle.shared_core.specs.Shown.{Seen}
use Rattle.script_commands.specs.declared.answer.Answer.{Answer}
use Rattle.script_commands.specs.declared.part.Part.{Part}
use Rattle.script_commands.specs.declared.request.Request.{Request}
use Rattle.script_commands.specs.Commands.{Made, Joining}
use Rattle.script_commands.specs.Sources.{Origin}
use Rattle.script_run.specs.declared.object.Object.{Object}
use Rattle.script_run.specs.declared.sourced.Sourced.{Sourced}
use Rattle.script_run.specs.declared.fault.ScriptFault.{ScriptFault}
use Rattle.script_run.specs.declared.line_answer.LineAnswer.{LineAnswer}
use Rattle.script_run.specs.Executing.{Joined}
use Rattle.script_run.specs.Scripts.{Gives, ReadsToEnd}
use Rattle.script_engines.specs.Watching.{Watch}
use Rattle.script_words.specs.Starts.{Starting}
use Rattle.flow_script.specs.Makers.{made_as}
use Rattle.script_model.specs.Running.{GivesAnswers, RunsByModel}
use Rattle.script_model.proofs.Answered.{gives_answers, runs_by_model}
use Rattle.script_model.proofs.Objects.{MakesKnown, AsksKnown, JoinsKnown, StandsInside, object_meets}

module _ {O F L H K : Type 0} (makes : Made → Result O Refusal → Type 0)
    (asks : Part → Request → O → Option Answer → O → Type 0)
    (joins : Part → Joining → O → Option Joined → O → Type 0) where
  pub gives_as_model : {Y : Type 0} (script : List ℕ) (result : Result (Vec LineAnswer Y) ScriptFault) → Gives makes asks joins script result
      → (seen : F → Seen ℕ) (object : O → Object F Watch L H K)
      (shares : ℕ → ℕ → Policy → Starting → Origin → Started → Sourced L H → Type 0) (stateds : ℕ → Starting → Origin → Started → Sourced Watch K → Type 0)
      (shares' : Part → Request → Option Answer → Sourced L H → Sourced L H → Type 0) (stateds' : Part → Request → Option Answer → Sourced Watch K → Sourced Watch K → Type 0)
      (shares'' : Part → Joining → Option Joined → Sourced L H → Sourced L H → Type 0) (stateds'' : Part → Joining → Option Joined → Sourced Watch K → Sourced Watch K → Type 0)
      → ((made : Made) (reply : Result O Refusal) → makes made reply → MakesKnown seen shares stateds made (made_as object reply))
      → ((part : Part) (request : Request) (old new : O) (answer : Option Answer) → asks part request old answer new
      → AsksKnown seen (shares' part request answer) (stateds' part request answer) part request (object old) answer (object new))
      → ((part : Part) (joiner : Joining) (old new : O) (joined : Option Joined) → joins part joiner old joined new
      → JoinsKnown seen (shares'' part joiner joined) (stateds'' part joiner joined) part joiner (object old) joined (object new))
      → GivesAnswers script result
  gives_as_model script result gives seen object shares stateds shares' stateds' shares'' stateds'' making asking joining =
      gives_answers makes asks joins script result gives (StandsInside seen object)
      (object_meets seen object makes asks joins shares stateds shares' stateds' shares'' stateds'' making asking joining)

  pub runs_as_model : (left rest old new : Option (List ℕ)) (result : Result (Unit {0}) ScriptFault) → ReadsToEnd makes asks joins left rest old new result
      → (seen : F → Seen ℕ) (object : O → Object F Watch L H K)
      (shares : ℕ → ℕ → Policy → Starting → Origin → Started → Sourced L H → Type 0) (stateds : ℕ → Starting → Origin → Started → Sourced Watch K → Type 0)
      (shares' : Part → Request → Option Answer → Sourced L H → Sourced L H → Type 0) (stateds' : Part → Request → Option Answer → Sourced Watch K → Sourced Watch K → Type 0)
      (shares'' : Part → Joining → Option Joined → Sourced L H → Sourced L H → Type 0) (stateds'' : Part → Joining → Option Joined → Sourced Watch K → Sourced Watch K → Type 0)
      → ((made : Made) (reply : Result O Refusal) → makes made reply → MakesKnown seen shares stateds made (made_as object reply))
      → ((part : Part) (request : Request) (before after : O) (answer : Option Answer) → asks part request before answer after
      → AsksKnown seen (shares' part request answer) (stateds' part request answer) part request (object before) answer (object after))
      → ((part : Part) (joiner : Joining) (before after : O) (joined : Option Joined) → joins part joiner before joined after
      → JoinsKnown seen (shares'' part joiner joined) (stateds'' part joiner joined) part joiner (object before) joined (object after))
      → RunsByModel left rest old new result
  runs_as_model left rest old new result runs seen object shares stateds shares' stateds' shares'' stateds'' making asking joining =
      runs_by_model makes asks joins left rest old new result runs (StandsInside seen object)
      (object_meets seen object makes asks joins shares stateds shares' stateds' shares'' stateds'' making asking joining)
