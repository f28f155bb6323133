-- What contracts name of a state's sharing. A caller needs to know no more of it.
use Rattle.std.specs.Prelude.{ℕ, Option}
use Rattle.cold_flow.specs.declared.cause.Cause.{Cause}
use Rattle.cold_flow.specs.declared.event.Event.{Event}
use Rattle.cold_flow.specs.Poll.{Traces}
use Rattle.futures.specs.declared.task.Poll.{Poll}
use Rattle.state_flow.specs.Views.{SeatSeen}
use Rattle.sharing_upstream.specs.declared.polling.Polled.{Polled}
use Rattle.sharing_upstream.specs.declared.strategy.Strategy.{Strategy}
use Rattle.sharing_upstream.specs.declared.upstream.Upstream.{Upstream}
use Rattle.sharing_upstream.specs.Sharings.{IsRefusedAt}
use Rattle.sharing_upstream.specs.Upstreams.{flow_of, course_of, PollsAt}
use Rattle.flow_sharing.specs.declared.state_sharing.StateSharing.{StateSharing}
use Rattle.flow_sharing.specs.StateDestinations.{setting}
use Rattle.flow_sharing.specs.StateShared.{SetsTaken}

module _ {T F A E U : Type 0} where
  -- its seat at the state
  abbrev pub seat_of : StateSharing T F A E U → SeatSeen T
  seat_of sharing = sharing.seat

  -- what a reset sets
  abbrev pub initial_of : StateSharing T F A E U → T
  initial_of sharing = sharing.initial

  abbrev pub upstream_of : StateSharing T F A E U → Upstream F T E U
  upstream_of sharing = sharing.upstream

  abbrev pub strategy_of : StateSharing T F A E U → Strategy
  strategy_of sharing = sharing.strategy

  -- WHAT ITS CALLER HAS
  -- what a call took of its upstream, and set. The first two words say what a run may give, and what a new run may give
  abbrev pub SetsWhatItTakes : (U → Traces T E) → (F → Traces T E) → StateSharing T F A E U → StateSharing T F A E U → Type 0
  SetsWhatItTakes may new_run old new = SetsTaken (λ live. may live.run) (new_run (flow_of old.upstream)) old.initial
      (course_of old.upstream) old.seat.view (course_of new.upstream) new.seat.view

  -- WHAT IT DID AT THE STATE
  -- What a poll at this moment did. The first four words say what a run may give, how it has ended, how it was polled, and what a new
  -- run may give
  abbrev pub SetsAt : (U → Traces T E) → (U → Option (Cause E)) → (U → Poll (Event T E) → U → Type 0) → (F → Traces T E)
      → StateSharing T F A E U → ℕ → Polled → StateSharing T F A E U → Type 0
  SetsAt may ended polled new_run old now answer new =
      PollsAt (setting old.initial) may ended polled new_run old.strategy now answer old.upstream old.seat.view new.upstream new.seat.view

  -- a poll at this moment was refused: a start was commanded
  abbrev pub RefusesAt : StateSharing T F A E U → ℕ → StateSharing T F A E U → Type 0
  RefusesAt old now new = IsRefusedAt (setting old.initial) old.strategy now old.seat.view new.seat.view
