-- What contracts name of an upstream. A caller needs to know no more of it.
use Rattle.std.specs.Prelude.{◌≡◌, ℕ, Bool, Option}
use Rattle.futures.specs.declared.task.Poll.{Poll}
use Rattle.cold_flow.specs.declared.cause.Cause.{Cause}
use Rattle.cold_flow.specs.declared.event.Event.{Event}
use Rattle.cold_flow.specs.Poll.{Traces}
use Rattle.sharing_upstream.specs.declared.upstream.Course.{Course}
use Rattle.sharing_upstream.specs.declared.upstream.Course.TheVariants.{Idle}
use Rattle.sharing_upstream.specs.declared.upstream.LiveRun.{LiveRun}
use Rattle.sharing_upstream.specs.declared.polling.Polled.{Polled}
use Rattle.sharing_upstream.specs.declared.strategy.Strategy.{Strategy}
use Rattle.sharing_upstream.specs.declared.upstream.Upstream.{Upstream}
use Rattle.sharing_upstream.specs.Courses.{kept_cause, is_running}
use Rattle.sharing_upstream.specs.Destinations.{Steps}
use Rattle.sharing_upstream.specs.Sharings.{ActsAt}

module _ {F T E U : Type 0} where
  -- the flow that it starts
  abbrev pub flow_of : Upstream F T E U → F
  flow_of upstream = upstream.flow

  -- where it stands: idle, running, or broken for good
  abbrev pub course_of : Upstream F T E U → Course (LiveRun U) E
  course_of upstream = upstream.course

  -- a run of it is going
  abbrev pub has_run : Upstream F T E U → Bool
  has_run upstream = is_running upstream.course

  -- the cause by which it ended for good
  abbrev pub cause_kept : Upstream F T E U → Option (Cause E)
  cause_kept upstream = kept_cause upstream.course

  -- it is of this flow, and wasn't started
  abbrev pub IsUnstarted : F → Upstream F T E U → Type 0
  IsUnstarted flow upstream = upstream ≡ record { flow = flow; course = Idle }

  -- What a poll did at this moment that found the strategy so. The four words before it say what a run may give, how it has ended, what a
  -- poll of it answered, and what a new run of the flow may give
  abbrev pub PollsAt : {S : Type 0} → Steps T S → (U → Traces T E) → (U → Option (Cause E)) → (U → Poll (Event T E) → U → Type 0)
      → (F → Traces T E) → Strategy → ℕ → Polled → Upstream F T E U → S → Upstream F T E U → S → Type 0
  PollsAt steps may ended polled new_run strategy now found from before to after =
      ActsAt steps (λ live. may live.run) (λ live. ended live.run) (λ was answer is. polled was.run answer is.run) (new_run from.flow)
      strategy now found from.course before to.course after
