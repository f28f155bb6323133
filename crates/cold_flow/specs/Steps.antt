-- What a step says of the poll that asks it.
use Rattle.std.specs.Prelude.{Bool, IsTrue, Option, Some, None, ⊤}
use Rattle.futures.specs.declared.task.Poll.{Poll}
use Rattle.futures.specs.declared.task.Poll.TheVariants as poll
use Rattle.cold_flow.specs.declared.builders.scripted.Step.{Step}
use Rattle.cold_flow.specs.declared.builders.scripted.Step.TheVariants.{Value, Pending, Fail}
use Rattle.cold_flow.specs.declared.cause.Cause.TheVariants.{Finished, Failed}
use Rattle.cold_flow.specs.declared.event.Event.{Event}
use Rattle.cold_flow.specs.declared.event.Event.TheVariants as event

-- what the poll answers; where no step is left, the run finishes
abbrev pub answer_of : {A E : Type 0} → Option (Step A E) → Poll (Event A E)
answer_of None = poll.Ready (event.End Finished)
answer_of (Some (Value v)) = poll.Ready (event.Value v)
answer_of (Some Pending) = poll.Pending
answer_of (Some (Fail fault)) = poll.Ready (event.End (Failed fault))

-- it isn't pending, and, unless the run ends by it, none is pending afterwards
abbrev pub StaysPrompt : {A E : Type 0} → Option (Step A E) → Bool → Type 0
StaysPrompt None prompt = ⊤
StaysPrompt (Some (Value v)) prompt = IsTrue prompt
StaysPrompt (Some Pending) prompt = ⊥
StaysPrompt (Some (Fail fault)) prompt = ⊤
