-- What a tick does to what shares a source: it is one poll of the sharing, at that very moment.
use Rattle.std.specs.Prelude.{◌≡◌, ℕ, Bool, true, false, Option, Some, None, Result, Ok, Err}
use Rattle.cold_flow.specs.declared.cause.Cause.{Cause}
use Rattle.cold_flow.specs.declared.cause.Cause.TheVariants as causes
use Rattle.cold_flow.specs.declared.flow.Flow as flows
use Rattle.cold_flow.specs.declared.run.Run as runs
use Rattle.cold_flow.specs.declared.event.Event.{Event}
use Rattle.cold_flow.specs.Poll.{Traces}
use Rattle.futures.specs.declared.task.Poll.{Poll}
use Rattle.flow_terms.specs.declared.refusal.Refusal.{Refusal}
use Rattle.flow_terms.specs.declared.refusal.Refusal.TheVariants.{NoMemory}
use Rattle.flow_terms.specs.declared.started.Started.{Started}
use Rattle.sharing_upstream.specs.declared.upstream.Course.{Course}
use Rattle.sharing_upstream.specs.declared.upstream.LiveRun.{LiveRun}
use Rattle.sharing_upstream.specs.declared.polling.Polled.{Polled}
use Rattle.sharing_upstream.specs.declared.strategy.Strategy.{Strategy}
use Rattle.sharing_upstream.specs.Courses.{kept_cause}
use Rattle.sharing_upstream.specs.Destinations.{Steps}
use Rattle.flow_sharing.specs.FlowDestinations.{IsNewDestination, DestinationSeen, emitting}
use Rattle.sharing_upstream.specs.Polls.{ShowsMore, Answers}
use Rattle.sharing_upstream.specs.Sharings.{ActsAt, IsRefusedAt}
use Rattle.sharing_upstream.specs.Shown.{started_by}
use Rattle.sharing_upstream.specs.Upstreams.{flow_of, course_of, IsUnstarted}
use Rattle.flow_sharing.specs.StateDestinations.{setting}
use Rattle.flow_sharing.specs.Sharings as shared
use Rattle.flow_sharing.specs.StateSharings as stated
use Rattle.shared_flow.specs.Owners.{Owning}
use Rattle.shared_flow.specs.Parties.{named}
use Rattle.state_flow.specs.Views.{SeatSeen}
use Rattle.script_calls.specs.Calls.{Turns}
use Rattle.script_calls.specs.declared.ticked.Ticked.{Ticked}
use Rattle.script_sharings.specs.declared.share.ScriptSharing.{ScriptSharing}
use Rattle.script_sharings.specs.declared.stated.Stated.{Stated}
use Rattle.script_calls.specs.declared.ticked.Ticked.TheVariants.{On, Off, Failed, Refused}

abbrev pub turned : Bool → Ticked
turned true = On
turned false = Off

-- a sharing ends for good by a failure or a refusal, and by nothing else
abbrev pub ended_by : Option (Cause ℕ) → Bool → Ticked
ended_by None on = turned on
ended_by (Some causes.Finished) on = turned on
ended_by (Some (causes.Failed fault)) on = Failed fault
ended_by (Some causes.Cancelled) on = turned on
ended_by (Some (causes.Refused refusal)) on = Refused refusal

-- what a poll that was answered so comes to, where this fault is kept after it
abbrev pub ticked : Result Polled Refusal → Option (Cause ℕ) → Ticked
ticked (Ok polled) fault = ended_by fault polled.on
ticked (Err refusal) fault = Refused refusal

-- what a sharing keeps, and the place where its values go
pub record Turning (U P : Type 0) : Type 0 where
  pub strategy : Strategy
  pub course : Course U ℕ
  pub place : P

module _ {U P : Type 0} (may : U → Traces ℕ ℕ) (ended : U → Option (Cause ℕ)) (asked : U → Poll (Event ℕ ℕ) → U → Type 0)
    (steps : Steps ℕ P) (new_run : Traces ℕ ℕ) where
  -- One poll at this moment was answered so, and the sharing did at it what its strategy commands. Refused is the start of a run
  -- alone, which was commanded; then nothing else has changed
  abbrev pub Polls : Turning U P → ℕ → Result Polled Refusal → Turning U P → Type 0
  Polls old now (Ok polled) new = ShowsMore old.strategy now polled.count new.strategy
      × Answers old.strategy (kept_cause old.course) now polled
      × ActsAt steps may ended asked new_run old.strategy now polled old.course old.place new.course new.place
  Polls old now (Err refusal) new = (refusal ≡ NoMemory) × (kept_cause old.course ≡ None)
      × (new.strategy ≡ old.strategy) × (new.course ≡ old.course) × IsRefusedAt steps old.strategy now old.place new.place

  -- the reply is what that poll came to
  abbrev pub TicksAt : Turning U P → ℕ → Ticked → Turning U P → Type 0
  TicksAt old now reply new = (new.strategy.started ≡ old.strategy.started)
      × ((polled : Result Polled Refusal) × (reply ≡ ticked polled (kept_cause new.course)) × Polls old now polled new)

-- what sets a state: a seat of it, what a reset sets, and a source with what is kept of its sharing
pub record Stating (F U : Type 0) : Type 0 where
  pub seat : SeatSeen ℕ
  pub initial : ℕ
  pub source : F
  pub course : Course U ℕ
  pub strategy : Strategy

-- what emits into a flow: an owner of it with an emitter and the value that waits, and a source with what is kept of its sharing
pub record Sharings (F U : Type 0) : Type 0 where
  pub place : DestinationSeen ℕ
  pub source : F
  pub course : Course U ℕ
  pub strategy : Strategy

abbrev pub stating_of : {F U : Type 0} → Stated F ℕ U → Stating F (LiveRun U)
stating_of it = record {
  seat = stated.seat_of it.sharing;
  initial = stated.initial_of it.sharing;
  source = flow_of (stated.upstream_of it.sharing);
  course = course_of (stated.upstream_of it.sharing);
  strategy = stated.strategy_of it.sharing;
}

-- it was started so, and this source isn't collected yet
abbrev pub SetsFrom : {F U : Type 0} → Started → F → Stated F ℕ U → Type 0
SetsFrom started source it = (started_by (stated.strategy_of it.sharing) ≡ started) × IsUnstarted source (stated.upstream_of it.sharing)

abbrev pub sharings_of : {W F U : Type 0} {flow : flows.Ghosts F ℕ ℕ U} {run : runs.Ghosts U ℕ ℕ} → ScriptSharing W F ℕ U flow run → Sharings F (LiveRun U)
sharings_of it = record {
  place = shared.place_of it.sharing;
  source = flow_of (shared.upstream_of it.sharing);
  course = course_of (shared.upstream_of it.sharing);
  strategy = shared.strategy_of it.sharing;
}

-- it emits into the flow of this owner, and nothing waits; it was started so, and this source isn't collected yet
abbrev pub SharesFrom : {W F U : Type 0} {flow : flows.Ghosts F ℕ ℕ U} {run : runs.Ghosts U ℕ ℕ} → Owning → Started → F → ScriptSharing W F ℕ U flow run → Type 0
SharesFrom owner started source it = (shared.shared_by it.sharing ≡ named owner.party) × IsNewDestination owner.party (shared.place_of it.sharing)
    × (started_by (shared.strategy_of it.sharing) ≡ started) × IsUnstarted source (shared.upstream_of it.sharing)

module _ {F U : Type 0} (may : U → Traces ℕ ℕ) (ended : U → Option (Cause ℕ)) (asked : U → Poll (Event ℕ ℕ) → U → Type 0)
    (may_of : F → Traces ℕ ℕ) where
  -- the sharing was polled, and sets the state by the same seat
  abbrev pub stating : Turns (Stating F U)
  stating = record {
    Ticks = λ old now reply new. (new.seat.flow ≡ old.seat.flow) × (new.initial ≡ old.initial) × (new.source ≡ old.source)
        × TicksAt may ended asked (setting old.initial) (may_of old.source)
        (record { strategy = old.strategy; course = old.course; place = old.seat.view }) now reply
        (record { strategy = new.strategy; course = new.course; place = new.seat.view });
  }

  -- the sharing was polled, and shares into the same flow
  abbrev pub sharing : Turns (Sharings F U)
  sharing = record {
    Ticks = λ old now reply new. (named new.place.owner.party ≡ named old.place.owner.party) × (new.source ≡ old.source)
        × TicksAt may ended asked (emitting (λ word. word)) (may_of old.source)
        (record { strategy = old.strategy; course = old.course; place = old.place }) now reply
        (record { strategy = new.strategy; course = new.course; place = new.place });
  }
