-- An object over the flows, states and sharings of an engine is one of which the model knows the flow and the state.
use Rattle.std.proofs.Common.{ℕ, Option}
use Rattle.shared_core.specs.Shown.{Seen}
use Rattle.script_calls.specs.Calls.{Receipts, Turns}
use Rattle.script_calls.specs.Views.{receipts_of, emissions_of}
use Rattle.script_commands.specs.declared.answer.Answer.{Answer}
use Rattle.script_commands.specs.declared.part.Part.{Part}
use Rattle.script_commands.specs.declared.request.Request.{Request}
use Rattle.script_commands.specs.Commands.{Joining}
use Rattle.script_engines.specs.Modelling.{receiving, emitting}
use Rattle.script_run.specs.declared.object.Object.{Object}
use Rattle.script_run.specs.declared.object.Object.TheVariants as objects
use Rattle.script_run.specs.Objects.{AsksObject, JoinsObject}
use Rattle.script_run.specs.Replied.{Joined}
use Rattle.script_run.specs.Sources.{AsksShare, AsksStated, JoinsShare, JoinsStated}
use Rattle.script_engines.specs.Watching.{Watch, watching, setting}
use Rattle.script_model.proofs.Objects.{AsksKnown, JoinsKnown}

module _ {F L H K : Type 0} (seen : F → Seen ℕ) (share_receipts : Receipts L) where
  pub asks_known : (share_turns : Turns H) (stated_turns : Turns K) (part : Part) (request : Request) (old new : Object F Watch L H K) (answer : Option Answer)
      → AsksObject (receipts_of seen receiving) (emissions_of seen emitting) watching setting share_receipts share_turns stated_turns part request old answer new
      → AsksKnown seen (λ before after. AsksShare share_receipts share_turns part request before answer after)
      (λ before after. AsksStated watching stated_turns part request before answer after) part request old answer new
  asks_known share_turns stated_turns part request (objects.Flow shown) new answer h = h
  asks_known share_turns stated_turns part request (objects.State shown) new answer h = h
  asks_known share_turns stated_turns part request (objects.Share shown) new answer h = h
  asks_known share_turns stated_turns part request (objects.Stated shown) new answer h = h
  asks_known share_turns stated_turns part request (objects.Buffer shown) new answer h = h

  pub joins_known : (part : Part) (joiner : Joining) (old new : Object F Watch L H K) (joined : Option Joined)
      → JoinsObject (receipts_of seen receiving) (emissions_of seen emitting) watching share_receipts part joiner old joined new
      → JoinsKnown seen (λ before after. JoinsShare share_receipts part joiner before joined after)
      (λ before after. JoinsStated watching part joiner before joined after) part joiner old joined new
  joins_known part joiner (objects.Flow shown) new joined h = h
  joins_known part joiner (objects.State shown) new joined h = h
  joins_known part joiner (objects.Share shown) new joined h = h
  joins_known part joiner (objects.Stated shown) new joined h = h
  joins_known part joiner (objects.Buffer shown) new joined h = h
