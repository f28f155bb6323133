-- What a run over a collector gives, and what the collector was given meanwhile.
use Rattle.std.specs.Prelude.{◌≡◌, Some, None}
use Rattle.futures.specs.declared.task.Poll.{Poll}
use Rattle.futures.specs.declared.task.Poll.TheVariants.{Ready, Pending}
use Rattle.cold_flow.specs.declared.event.Event.{Event}
use Rattle.cold_flow.specs.declared.event.Event.TheVariants.{Value, End}
use Rattle.state_flow.specs.Views.{SeatSeen}
use Rattle.state_flow.specs.Calls.{Collects}

-- what a poll gave is what the collector was given by one ask, at the same state; with an end it was asked nothing
abbrev pub Asked : {T E : Type 0} → SeatSeen T → Poll (Event T E) → SeatSeen T → Type 0
Asked s (Ready (Value v)) t = (t.flow ≡ s.flow) × Collects s.view (Some v) t.view
Asked s (Ready (End k)) t = t ≡ s
Asked s Pending t = (t.flow ≡ s.flow) × Collects s.view None t.view
