-- How an upstream stands, and what it gives.
use Rattle.std.specs.Prelude.{◌≡◌, List, [], Option, Some, None, Bool, true, false}
use Rattle.futures.specs.declared.task.Poll.{Poll}
use Rattle.futures.specs.declared.task.Poll.TheVariants.{Ready, Pending}
use Rattle.cold_flow.specs.declared.cause.Cause.{Cause}
use Rattle.cold_flow.specs.declared.cause.Cause.TheVariants.{Finished, Failed, Cancelled, Refused}
use Rattle.cold_flow.specs.declared.event.Event.{Event}
use Rattle.cold_flow.specs.Trace.{so_far, ended_by}
use Rattle.cold_flow.specs.Poll.{Traces, Within, After}
use Rattle.cold_flow.specs.Gather.{Gathered}
use Rattle.sharing_upstream.specs.declared.upstream.Course.{Course}
use Rattle.sharing_upstream.specs.declared.upstream.Course.TheVariants.{Idle, Running, Broken}

-- the cause that is kept for good
abbrev pub kept_cause : {U E : Type 0} → Course U E → Option (Cause E)
kept_cause Idle = None
kept_cause (Running run) = None
kept_cause (Broken cause) = Some cause

abbrev pub is_running : {U E : Type 0} → Course U E → Bool
is_running Idle = false
is_running (Running run) = true
is_running (Broken cause) = false

-- after a stop
abbrev pub stopped : {U E : Type 0} → Course U E → Course U E
stopped Idle = Idle
stopped (Running run) = Idle
stopped (Broken cause) = Broken cause

-- after the run ended by this cause: a failure and a refusal are kept
abbrev pub after_end : {U E : Type 0} → Cause E → Course U E
after_end Finished = Idle
after_end (Failed fault) = Broken (Failed fault)
after_end Cancelled = Idle
after_end (Refused refusal) = Broken (Refused refusal)

module _ {U T E : Type 0} (may : U → Traces T E) (ended : U → Option (Cause E)) where
  -- a run is going that may give what a new run of the flow may give
  abbrev pub IsNew : Traces T E → Course U E → Type 0
  IsNew flow Idle = ⊥
  IsNew flow (Running run) = Within flow (may run) × (ended run ≡ None)
  IsNew flow (Broken cause) = ⊥

  -- the run gave x, and goes on
  abbrev pub Gave : U → T → Course U E → Type 0
  Gave from x Idle = ⊥
  Gave from x (Running to) = After (may from) x (may to) × (ended to ≡ None)
  Gave from x (Broken cause) = ⊥

  -- the run gave nothing yet, and goes on
  abbrev pub GaveNothing : U → Course U E → Type 0
  GaveNothing from Idle = ⊥
  GaveNothing from (Running to) = Within (may from) (may to) × (ended to ≡ None)
  GaveNothing from (Broken cause) = ⊥

  -- what the run answered that was asked for one event, and how the upstream stands then; where no run is going, nothing happens
  abbrev pub Asked : Course U E → Poll (Option T) → Course U E → Type 0
  Asked Idle result to = (result ≡ Ready None) × (to ≡ Idle)
  Asked (Broken cause) result to = (result ≡ Ready None) × (to ≡ Broken cause)
  Asked (Running from) (Ready (Some x)) to = Gave from x to
  Asked (Running from) (Ready None) to = (cause : Cause E) × may from (ended_by [] cause) × (to ≡ after_end cause)
  Asked (Running from) Pending to = GaveNothing from to

  -- ---- after several events

  -- the run gave these values, and goes on; where no run is going, nothing happened
  abbrev pub GoesOn : Course U E → List T → Course U E → Type 0
  GoesOn Idle values to = (values ≡ []) × (to ≡ Idle)
  GoesOn (Broken cause) values to = (values ≡ []) × (to ≡ Broken cause)
  GoesOn (Running from) values to = (run : U) × (to ≡ Running run) × Within (may from) (Gathered values (may run))

  -- the run gave these values, and ended; where no run is going, nothing happened
  abbrev pub Ends : Course U E → List T → Course U E → Type 0
  Ends Idle values to = (values ≡ []) × (to ≡ Idle)
  Ends (Broken cause) values to = (values ≡ []) × (to ≡ Broken cause)
  Ends (Running from) values to = (cause : Cause E) × may from (ended_by values cause) × (to ≡ after_end cause)

  -- the run gave these values
  abbrev pub GaveAll : Course U E → List T → Type 0
  GaveAll Idle values = values ≡ []
  GaveAll (Broken cause) values = values ≡ []
  GaveAll (Running from) values = may from (so_far values)

-- The run that was going was polled, answered pending, and goes on. The word before them says of a poll of a run how the run stood, what it
-- answered, and how the run stood then
abbrev pub AnsweredPending : {U T E : Type 0} → (U → Poll (Event T E) → U → Type 0) → Course U E → Course U E → Type 0
AnsweredPending polled (Running was) (Running is) = polled was Pending is
AnsweredPending _ _ _ = ⊥
