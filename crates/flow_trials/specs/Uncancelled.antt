-- What a flow of a test's own may give: anything but a cancellation.
use Rattle.std.specs.Prelude.{Option, Some, None, ⊤}
use Rattle.cold_flow.specs.declared.cause.Cause.{Cause}
use Rattle.cold_flow.specs.declared.cause.Cause.TheVariants.{Finished, Failed, Cancelled, Refused}
use Rattle.cold_flow.specs.Trace.{Trace}

abbrev pub IsUncancelled : {E : Type 0} → Option (Cause E) → Type 0
IsUncancelled None = ⊤
IsUncancelled (Some Finished) = ⊤
IsUncancelled (Some (Failed e)) = ⊤
IsUncancelled (Some Cancelled) = ⊥
IsUncancelled (Some (Refused why)) = ⊤

abbrev pub AnyTrace : {A E : Type 0} → Trace A E → Type 0
AnyTrace t = IsUncancelled t.1
