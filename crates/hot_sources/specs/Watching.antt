-- What a run over a collector gives that a bell wakes, and what the collector was given meanwhile.
use Rattle.std.specs.Prelude.{◌≡◌, ◌⊎◌, [], Some, None, refl}
use Rattle.std.proofs.Common.{inl}
use Rattle.futures.specs.declared.task.Poll.{Poll}
use Rattle.futures.specs.declared.task.Poll.TheVariants.{Ready, Pending}
use Rattle.cold_flow.specs.declared.cause.Cause.TheVariants.{Cancelled}
use Rattle.cold_flow.specs.declared.event.Event.{Event}
use Rattle.cold_flow.specs.declared.event.Event.TheVariants.{Value, End}
use Rattle.cold_flow.specs.Trace.{Trace, so_far}
use Rattle.cold_flow.specs.Poll.{Unless}
use Rattle.cold_flow.specs.Laws.{Unless-begins}
use Rattle.state_flow.specs.Views.{SeatSeen}
use Rattle.state_flow.specs.Calls.{Collects}
use Rattle.hot_sources.specs.declared.sources.ended.Ended.{Ended}

-- a trace that has not ended, or was let go
abbrev pub UntilLetGo : {A E : Type 0} → Trace A E → Type 0
UntilLetGo t = (t.1 ≡ None) ⊎ (t.1 ≡ Some Cancelled)

pub watching_begins : (A : Type 0) {E : Type 0} (e : Ended E) → Unless e.cause (UntilLetGo {A = A}) (so_far [])
watching_begins A e = Unless-begins e.cause UntilLetGo (inl refl)

-- What a poll gave is what the collector was given by one ask, at the same state. With an end that was nothing; or it was asked nothing.
abbrev pub Watched : {T E : Type 0} → SeatSeen T → Poll (Event T E) → SeatSeen T → Type 0
Watched s (Ready (Value v)) t = (t.flow ≡ s.flow) × Collects s.view (Some v) t.view
Watched s (Ready (End k)) t = (t ≡ s) ⊎ ((t.flow ≡ s.flow) × Collects s.view None t.view)
Watched s Pending t = (t.flow ≡ s.flow) × Collects s.view None t.view
