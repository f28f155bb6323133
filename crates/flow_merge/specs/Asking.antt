-- What one question to a source says of what the whole may give.
use Rattle.std.specs.Prelude.{◌<◌, Bool, true, [], Option, Some, None, ⊤}
use Rattle.std.specs.Iterator.{Count, IsFinite, size}
use Rattle.futures.specs.declared.task.Poll.{Poll}
use Rattle.futures.specs.declared.task.Poll.TheVariants.{Ready, Pending}
use Rattle.cold_flow.specs.declared.event.Event.{Event}
use Rattle.cold_flow.specs.declared.event.Event.TheVariants.{Value, End}
use Rattle.cold_flow.specs.Trace.{ended_by}
use Rattle.cold_flow.specs.Poll.{Traces, Within, After}

-- A question gives a value or the end, or nothing: then what is left is part of what could come.
abbrev pub Asks : {A E : Type 0} → Traces A E → Poll (Option (Event A E)) → Traces A E → Type 0
Asks old (Ready (Some (Value v))) new = After old v new
Asks old (Ready (Some (End k))) new = old (ended_by [] k)
Asks old (Ready None) new = Within old new
Asks old Pending new = Within old new

-- P, where the question gave the end
abbrev pub OnEnd : {A E : Type 0} → Poll (Option (Event A E)) → Type 0 → Type 0
OnEnd (Ready (Some (Value v))) P = ⊤
OnEnd (Ready (Some (End k))) P = P
OnEnd (Ready None) P = ⊤
OnEnd Pending P = ⊤

-- fewer polls are left, unless the question gave the end
abbrev pub AsksApproach : {A E : Type 0} → Count → Poll (Option (Event A E)) → Count → Type 0
AsksApproach old (Ready (Some (End k))) new = ⊤
AsksApproach old (Ready (Some (Value v))) new = IsFinite old → IsFinite new × (size new < size old)
AsksApproach old (Ready None) new = IsFinite old → IsFinite new × (size new < size old)
AsksApproach old Pending new = IsFinite old → IsFinite new × (size new < size old)

-- whether the run that stands, if any, asks no source any more
abbrev pub standing_stopped : {R : Type 0} → (R → Bool) → Option R → Bool
standing_stopped stopped None = true
standing_stopped stopped (Some r) = stopped r
