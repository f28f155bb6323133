-- The calls that a program made on a new flow, the replies that it got and the flow as it left it, as an execution.
use Rattle.std.specs.Prelude.{◌≡◌, List, [], ◌∷◌, ◌++◌, map}
use Rattle.shared_core.specs.declared.call.Call.{Call}
use Rattle.shared_core.specs.declared.call.Reply.{Reply}
use Rattle.shared_core.specs.Calls as model
use Rattle.shared_core.specs.Flow.{Parameters}
use Rattle.shared_core.specs.Shown.{Seen}
use Rattle.shared_core.specs.Runs.{call_of, reply_of}
use Rattle.shared_core.specs.Headline.{Execution, execution_of}

abbrev pub execution_made : {T : Type 0} → List (Call T) → List (Reply T) → Seen T → Execution T
execution_made calls replied flow = record { calls = map call_of calls; replies = map reply_of replied; seen = flow }

-- it is the model's execution of its calls, on a flow made with these parameters
abbrev pub IsExecutionOf : {T : Type 0} → Parameters → Execution T → Type 0
IsExecutionOf p execution = execution ≡ execution_of p execution.calls

-- a new flow, on which no call was made yet
abbrev pub execution_begun : {T : Type 0} → Seen T → Execution T
execution_begun flow = record { calls = []; replies = []; seen = flow }

-- the execution with one call more, the reply to it, and the flow as this call left it
abbrev pub and_then : {T : Type 0} → Execution T → model.Call T → model.Reply T → Seen T → Execution T
and_then execution call reply flow = record { calls = execution.calls ++ call ∷ []; replies = execution.replies ++ reply ∷ []; seen = flow }
