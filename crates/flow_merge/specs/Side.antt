-- One side of a combine: what a question to it brings.
use Rattle.std.specs.Prelude.{◌≡◌, Bool, true, false, [], Option, Some, None, ⊤}
use Rattle.std.specs.Iterator.{Count, count_unless}
use Rattle.futures.specs.declared.task.Poll.{Poll}
use Rattle.futures.specs.declared.task.Poll.TheVariants.{Ready, Pending}
use Rattle.cold_flow.specs.declared.cause.Cause.{Cause}
use Rattle.cold_flow.specs.declared.cause.Cause.TheVariants.{Finished, Failed, Cancelled, Refused}
use Rattle.cold_flow.specs.Trace.{ended_by}
use Rattle.cold_flow.specs.Poll.{Traces, Within, After}
use Rattle.flow_merge.specs.declared.flows.side.Arrival.{Arrival}
use Rattle.flow_merge.specs.declared.flows.side.Arrival.TheVariants.{Came, Done, Ended}
use Rattle.flow_merge.specs.Counting.{with_end, IsFewer}

-- whether this is the cause `Finished`
abbrev pub is_finished : {E : Type 0} → Option (Cause E) → Bool
is_finished None = false
is_finished (Some Finished) = true
is_finished (Some (Failed e)) = false
is_finished (Some Cancelled) = false
is_finished (Some (Refused why)) = false

-- What a side may give and its latest value, before a question and after. A value that came is the latest, and what is left could come
-- after it; else the latest stays, and it ends by a cause only where it could.
abbrev pub Brings : {A E : Type 0} → Traces A E → Option A → Poll (Arrival E) → Traces A E → Option A → Type 0
Brings {A} old before (Ready Came) new latest = (x : A) × (latest ≡ Some x) × After old x new
Brings old before (Ready Done) new latest = (latest ≡ before) × old (ended_by [] Finished)
Brings old before (Ready (Ended k)) new latest = (latest ≡ before) × (k ≡ Finished → ⊥) × old (ended_by [] k)
Brings old before Pending new latest = (latest ≡ before) × Within old new

-- whether a question showed that it has finished
abbrev pub is_done : {E : Type 0} → Poll (Arrival E) → Bool
is_done (Ready Came) = false
is_done (Ready Done) = true
is_done (Ready (Ended k)) = false
is_done Pending = false

-- the polls that are left of a side, and one for its end, which a side that has finished gave
abbrev pub side_polls : Bool → Count → Count
side_polls finished polls = count_unless finished (with_end polls)

-- a question brings the end nearer, unless it gave the end, or had given it before
abbrev pub SideApproaches : {E : Type 0} → Bool → Count → Poll (Arrival E) → Bool → Count → Type 0
SideApproaches before old (Ready Came) finished new = IsFewer (side_polls before old) (side_polls finished new)
SideApproaches before old (Ready Done) finished new = before ≡ false → IsFewer (side_polls before old) (side_polls finished new)
SideApproaches before old (Ready (Ended k)) finished new = ⊤
SideApproaches before old Pending finished new = IsFewer (side_polls before old) (side_polls finished new)
