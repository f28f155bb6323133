-- What a poll took, and emitted or set, by what is told of it.
use Rattle.std.proofs.Common.{◌≡◌, refl, sym, ap, subst, ℕ, Option, Result, Ok, Err}
use Rattle.std.specs.Prelude.{IfOk, IfErr, OnErr}
use Rattle.futures.specs.declared.task.Poll.{Poll}
use Rattle.flow_terms.specs.declared.refusal.Refusal.{Refusal}
use Rattle.cold_flow.specs.declared.cause.Cause.{Cause}
use Rattle.cold_flow.specs.declared.event.Event.{Event}
use Rattle.cold_flow.specs.Poll.{Traces}
use Rattle.state_flow.specs.declared.view.View.{View}
use Rattle.shared_flow.specs.Emitted.{emitted}
use Rattle.sharing_upstream.specs.declared.polling.Polled.{Polled}
use Rattle.sharing_upstream.specs.declared.strategy.Strategy.{Strategy}
use Rattle.sharing_upstream.specs.declared.upstream.Upstream.{Upstream}
use Rattle.sharing_upstream.specs.Courses.{kept_cause}
use Rattle.sharing_upstream.specs.Polls.{Commands}
use Rattle.sharing_upstream.specs.Sharings.{IsRefusedAt}
use Rattle.sharing_upstream.specs.Upstreams.{flow_of, course_of, PollsAt}
use Rattle.flow_sharing.specs.FlowDestinations.{DestinationSeen, emitting}
use Rattle.flow_sharing.specs.StateDestinations.{setting}
use Rattle.flow_sharing.specs.Taken.{Took}
use Rattle.flow_sharing.specs.Shared.{Awaited, Emits, WaitsLast}
use Rattle.flow_sharing.specs.StateShared.{SetsTaken}
use Rattle.flow_sharing.proofs.Shared.{Waits, by_none, acts}
use Rattle.flow_sharing.proofs.StateShared as setting_proofs

module _ {T F E U : Type 0} (may : U → Traces T E) (ended : U → Option (Cause E)) (polled : U → Poll (Event T E) → U → Type 0) (new_run : F → Traces T E) where
  -- of a shared flow
  pub emits : (word : T → ℕ) (before after : Strategy) (now : ℕ) (result : Result Polled Refusal) (from : Upstream F T E U) (s : DestinationSeen T) (to : Upstream F T E U) (t : DestinationSeen T)
      → Waits s → WaitsLast word t.waiting (emitted t.emitter)
      → IfOk result (λ found. PollsAt (emitting word) may ended polled new_run before now found from s to t)
      → OnErr result ((after ≡ before) × (course_of to ≡ course_of from)) → IfErr result (λ _. IsRefusedAt (emitting word) before now s t)
      → Emits word (λ live. may live.run) (new_run (flow_of from)) (course_of from) s.waiting (emitted s.emitter) (course_of to) t.waiting (emitted t.emitter)
  emits word before after now (Ok found) from s to t waits last polls same refused =
      subst (λ (p : DestinationSeen T). Emits word (λ live. may live.run) (new_run (flow_of from)) (course_of from) p.waiting (emitted p.emitter) (course_of to) t.waiting (emitted t.emitter))
      polls.1.0
      (acts word (λ live. may live.run) (λ live. ended live.run) (λ was answer is. polled was.run answer is.run) (new_run (flow_of from))
      (kept_cause (course_of from)) (Commands before now found.count) found.on (course_of from) polls.0 (course_of to) t
      (subst Waits (sym polls.1.0) waits) polls.2 last)
  emits word before after now (Err refusal) from s to t waits last polls same refused =
      by_none word (λ live. may live.run) (λ live. ended live.run) (λ was answer is. polled was.run answer is.run) (new_run (flow_of from))
      (course_of from) s.waiting (emitted s.emitter) (course_of to) t.waiting (emitted t.emitter) (emitted s.emitter)
      (Took.nothing refl same.1) (Awaited.is_unchanged refl refl) (ap (λ (p : DestinationSeen T). emitted p.emitter) refused.1.0) last

  -- of a state
  pub sets : (initial : T) (before after : Strategy) (now : ℕ) (result : Result Polled Refusal) (from : Upstream F T E U) (s : View T) (to : Upstream F T E U) (t : View T)
      → IfOk result (λ found. PollsAt (setting initial) may ended polled new_run before now found from s to t)
      → OnErr result ((after ≡ before) × (course_of to ≡ course_of from)) → IfErr result (λ _. IsRefusedAt (setting initial) before now s t)
      → SetsTaken (λ live. may live.run) (new_run (flow_of from)) initial (course_of from) s (course_of to) t
  sets initial before after now (Ok found) from s to t polls same refused =
      setting_proofs.acts initial (λ live. may live.run) (λ live. ended live.run) (λ was answer is. polled was.run answer is.run) (new_run (flow_of from))
      (kept_cause (course_of from)) (Commands before now found.count) found.on (course_of from) s found.count polls.0 (course_of to) t polls.1 polls.2
  sets initial before after now (Err refusal) from s to t polls same refused =
      setting_proofs.by_count initial (λ live. may live.run) (λ live. ended live.run) (λ was answer is. polled was.run answer is.run) (new_run (flow_of from))
      (course_of from) s refused.0 (course_of to) t refused.1 same.1
