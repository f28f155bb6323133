-- What contracts name of a flow with a buffer, of its run, and of a feed. A caller needs to know no more of them.
use Rattle.std.specs.Prelude.{◌≡◌, ℕ, [], Option, Some, None, Bool, IsTrue, MatchOption}
use Rattle.std.specs.Iterator.{Count}
use Rattle.futures.specs.declared.task.Poll.{Poll}
use Rattle.cold_flow.specs.declared.cause.Cause.{Cause}
use Rattle.cold_flow.specs.declared.event.Event.{Event}
use Rattle.cold_flow.specs.declared.run.Run as runs
use Rattle.cold_flow.specs.Poll.{Traces, Within}
use Rattle.cold_flow.specs.Polled.{WasCancelled}
use Rattle.flow_terms.specs.declared.policy.Policy.{Policy}
use Rattle.flow_terms.specs.declared.fill.Fill.{Fill}
use Rattle.flow_buffer.specs.declared.buffer_flow.Buffer.{Buffer}
use Rattle.flow_buffer.specs.declared.buffered.Buffered.{Buffered}
use Rattle.flow_buffer.specs.declared.ending.Ending.{Ending}
use Rattle.flow_buffer.specs.declared.feed.Feed.{Feed}
use Rattle.flow_buffer.specs.Buffered.{Fills, Takes, Cancels}
use Rattle.flow_buffer.specs.Capacity.{IsCapacity}
use Rattle.flow_buffer.specs.Contents.{Contents, nothing}
use Rattle.flow_buffer.specs.Delivery.{Delivered, StoreGives, store_polls}
use Rattle.flow_buffer.specs.Endings.{given, seen}
use Rattle.flow_buffer.specs.Feed.{Pumps, MayPump}
use Rattle.flow_buffer.specs.Sides.{Feeding, seen_end}
use Rattle.flow_buffer.specs.Stored.{Shows}

-- ---- a flow with a buffer behind it

module _ {F : Type 0} where
  -- the flow that it is behind
  abbrev pub source_flow : Buffer F → F
  source_flow flow = flow.source

  -- it was made of that source, with that capacity, which it may have, and that policy
  abbrev pub IsMadeOf : F → ℕ → Policy → Buffer F → Type 0
  IsMadeOf source capacity policy made =
      IsCapacity capacity × (made.source ≡ source) × (made.capacity ≡ capacity) × (made.policy ≡ policy)

  -- what a new run of it contains
  abbrev pub nothing_in : {T : Type 0} → Buffer F → Contents T
  nothing_in flow = nothing flow.capacity flow.policy

-- ---- its run

module _ {S T E : Type 0} {run : runs.Ghosts S T E} where
  -- the run of its source
  abbrev pub source_run : Buffered S T E run → S
  source_run buffered = buffered.source

  -- how far it is from its end; the end that it has seen, and the one that every poll gives
  abbrev pub ending_of : Buffered S T E run → Ending E
  ending_of buffered = buffered.store.ending

  abbrev pub end_seen : Buffered S T E run → Option (Cause E)
  end_seen buffered = seen buffered.store.ending

  abbrev pub end_given : Buffered S T E run → Option (Cause E)
  end_given buffered = given buffered.store.ending

  -- these contents fit it: what they store is what it holds, in order, and as many were taken and dropped as it has counted
  abbrev pub HasContents : Buffered S T E run → Contents T → Type 0
  HasContents buffered contents = Shows buffered.store contents

  -- what it may give, and the polls that are left of it, where the argument says so of its source
  abbrev pub may_give : (S → Traces T E) → Buffered S T E run → Traces T E
  may_give may buffered = StoreGives buffered.store (may buffered.source)

  abbrev pub polls_left_of : (S → Count) → Buffered S T E run → Count
  polls_left_of polls buffered = store_polls buffered.store (polls buffered.source)

  -- a new run gives no more than a buffer that holds nothing may give of its source
  abbrev pub GivesFromEmpty : {F : Type 0} → (F → Traces T E) → (S → Traces T E) → Buffer F → Buffered S T E run → Type 0
  GivesFromEmpty flow_may may flow buffered =
      Within (Delivered flow.capacity flow.policy [] (flow_may flow.source)) (may_give may buffered)

  -- what a fill did
  abbrev pub FillsOnce : (S → Traces T E) → Buffered S T E run → Fill → Buffered S T E run → Type 0
  FillsOnce may old fill new = Fills may old.source old.store fill new.source new.store

  -- what a poll did
  abbrev pub TakesOnce : (S → Traces T E) → Buffered S T E run → Poll (Event T E) → Buffered S T E run → Type 0
  TakesOnce may old answer new = Takes may old.source old.store answer new.source new.store

  -- what a cancellation did
  abbrev pub GivesUpAll : Buffered S T E run → Buffered S T E run → Type 0
  GivesUpAll old new = Cancels old.store new.store

-- ---- a feed

module _ {U T E : Type 0} {run : runs.Ghosts U T E} where
  -- the run that it asks
  abbrev pub upstream_of : Feed U T E run → U
  upstream_of feed = feed.upstream

  -- what it has produced, what waits in it, and the end that it has sent
  abbrev pub feeding : Feed U T E run → Feeding T E
  feeding feed = feed.inlet

  -- what a pump did
  abbrev pub PumpsOnce : (U → Traces T E) → Feed U T E run → Fill → Feed U T E run → Type 0
  PumpsOnce may old fill new = Pumps may old.upstream old.inlet fill new.upstream new.inlet

  -- what a pump did that does not wait
  abbrev pub MayPumpOnce : (U → Traces T E) → Feed U T E run → Option Fill → Feed U T E run → Type 0
  MayPumpOnce may old fill new = MayPump may old.upstream old.inlet fill new.upstream new.inlet

  -- the upstream was cancelled, unless its end had come; then it had stopped
  abbrev pub EndsUpstream : (U → U → Type 0) → (U → Bool) → Feed U T E run → Type 0
  EndsUpstream cancelled stopped feed =
      MatchOption (seen_end feed.inlet.sent feed.inlet.waiting) (WasCancelled cancelled stopped feed.upstream) (λ _. IsTrue (stopped feed.upstream))
