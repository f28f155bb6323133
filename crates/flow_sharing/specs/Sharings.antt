-- What contracts name of a shared flow's sharing. A caller needs to know no more of it.
use Rattle.std.specs.Prelude.{◌≡◌, ℕ, List, Option}
use Rattle.std.specs.declared.cmp.PartialEq as compared
use Rattle.flow_terms.specs.declared.word.Word as words
use Rattle.cold_flow.specs.declared.cause.Cause.{Cause}
use Rattle.cold_flow.specs.declared.flow.Flow as flows
use Rattle.cold_flow.specs.declared.run.Run as runs
use Rattle.cold_flow.specs.Poll.{Traces}
use Rattle.shared_flow.specs.Emitted.{Emissions, emitted}
use Rattle.shared_flow.specs.Owners.{Owning}
use Rattle.shared_flow.specs.Parties.{Emitting, PartyName, named}
use Rattle.sharing_upstream.specs.declared.polling.Polled.{Polled}
use Rattle.sharing_upstream.specs.declared.strategy.Strategy.{Strategy}
use Rattle.sharing_upstream.specs.declared.upstream.Upstream.{Upstream}
use Rattle.sharing_upstream.specs.Sharings.{IsRefusedAt}
use Rattle.sharing_upstream.specs.Upstreams.{flow_of, course_of, PollsAt}
use Rattle.flow_sharing.specs.declared.sharing.Sharing.{Sharing}
use Rattle.flow_sharing.specs.FlowDestinations.{DestinationSeen, emitting}
use Rattle.flow_sharing.specs.Outlets.{place_at}
use Rattle.flow_sharing.specs.Shared.{Emits, words_of}
use Rattle.futures.specs.declared.task.Poll.{Poll}
use Rattle.cold_flow.specs.declared.event.Event.{Event}

module _ {T F E U : Type 0} {word : words.Ghosts T} {compare : compared.Ghosts T}
    {flow : flows.Ghosts F T E U} {run : runs.Ghosts U T E} where
  -- its owner of the flow that it emits into
  abbrev pub owner_of : Sharing T F E U word compare flow run → Owning
  owner_of sharing = sharing.flow

  -- that flow
  abbrev pub shared_by : Sharing T F E U word compare flow run → PartyName
  shared_by sharing = named sharing.flow.party

  -- the value of the emission that waits
  abbrev pub waiting_in : Sharing T F E U word compare flow run → Option T
  waiting_in sharing = sharing.outlet.waiting

  abbrev pub upstream_of : Sharing T F E U word compare flow run → Upstream F T E U
  upstream_of sharing = sharing.upstream

  abbrev pub strategy_of : Sharing T F E U word compare flow run → Strategy
  strategy_of sharing = sharing.strategy

  -- its emitter
  abbrev pub emitter_of : Sharing T F E U word compare flow run → Emitting
  emitter_of sharing = sharing.outlet.emitter

  -- WHAT ITS CALLER HAS
  -- what it emitted so far, in order, each word with what became of it
  abbrev pub shared : Sharing T F E U word compare flow run → Emissions
  shared sharing = emitted (emitter_of sharing)

  -- the words of the values that it took of its upstream so far, in order: it emits each as it takes it
  abbrev pub taken_of_upstream : Sharing T F E U word compare flow run → List ℕ
  taken_of_upstream sharing = words_of (shared sharing)

  -- what a call took of its upstream, and emitted. The first three words say what a value's word is, what a run may give, and what a new
  -- run may give
  abbrev pub EmitsWhatItTakes : (T → ℕ) → (U → Traces T E) → (F → Traces T E)
      → Sharing T F E U word compare flow run → Sharing T F E U word compare flow run → Type 0
  EmitsWhatItTakes word_of may new_run old new = Emits word_of (λ live. may live.run) (new_run (flow_of old.upstream))
      (course_of old.upstream) (waiting_in old) (shared old) (course_of new.upstream) (waiting_in new) (shared new)

  -- WHAT IT DID AT THE FLOW
  -- the place where its values go
  abbrev pub place_of : Sharing T F E U word compare flow run → DestinationSeen T
  place_of sharing = place_at sharing.flow sharing.outlet

  -- What a poll at this moment did. The first five words say what a value's word is, what a run may give, how it has ended, how it was
  -- polled, and what a new run may give
  abbrev pub SharesAt : (T → ℕ) → (U → Traces T E) → (U → Option (Cause E)) → (U → Poll (Event T E) → U → Type 0) → (F → Traces T E)
      → Sharing T F E U word compare flow run → ℕ → Polled → Sharing T F E U word compare flow run → Type 0
  SharesAt word_of may ended polled new_run old now answer new =
      PollsAt (emitting word_of) may ended polled new_run old.strategy now answer old.upstream (place_of old) new.upstream (place_of new)

  -- a poll at this moment was refused: a start was commanded, and it had counted
  abbrev pub RefusesAt : (T → ℕ) → Sharing T F E U word compare flow run → ℕ → Sharing T F E U word compare flow run → Type 0
  RefusesAt word_of old now new = IsRefusedAt (emitting word_of) old.strategy now (place_of old) (place_of new)

  -- its strategy, the course of its upstream, its emitter and what waits are as before
  abbrev pub IsAsBefore : Sharing T F E U word compare flow run → Sharing T F E U word compare flow run → Type 0
  IsAsBefore old new = (new.strategy ≡ old.strategy) × (course_of new.upstream ≡ course_of old.upstream)
      × (new.outlet.emitter ≡ old.outlet.emitter) × (new.outlet.waiting ≡ old.outlet.waiting)
