-- What a pump did: it put what waits in the feed, or where nothing does, it asked the upstream once and put the answer.
use Rattle.std.specs.Prelude.{◌≡◌, ◌≢◌, ◌≤◌, ◌⊎◌, Option, Some, None}
use Rattle.futures.specs.declared.task.Poll.{Poll}
use Rattle.futures.specs.declared.task.Poll.TheVariants.{Ready, Pending as IsPending}
use Rattle.cold_flow.specs.declared.cause.Cause.{Cause}
use Rattle.cold_flow.specs.declared.event.Event.{Event}
use Rattle.cold_flow.specs.declared.event.Event.TheVariants.{Value, End}
use Rattle.cold_flow.specs.Poll.{Traces, Narrows, after_cancel}
use Rattle.flow_terms.specs.declared.fill.Fill.{Fill}
use Rattle.flow_terms.specs.declared.fill.Fill.TheVariants.{Took, Overwrote, Dropped, Full, Pending, Ended}
use Rattle.flow_buffer.specs.Sides.{Feeding, Filled, HasToWait, Levels, WasFull}

module _ {U T E : Type 0} (may : U → Traces T E) where
  -- what is put next: what waits, and then the upstream isn't asked, or the upstream's answer
  abbrev pub Brings : U → Option (Event T E) → Poll (Event T E) → U → Type 0
  Brings from None answer to = Narrows (may from) answer (may to)
  Brings from (Some event) answer to = (answer ≡ Ready event) × (to ≡ from)

  -- a value was put as the fill says
  abbrev pub Puts : U → Feeding T E → Fill → U → Feeding T E → Type 0
  Puts from old fill to new = (old.sent ≡ None)
      × ((x : T) × Brings from old.waiting (Ready (Value x)) to × Filled old.capacity old.policy old.produced x fill new.produced)
      × Levels old.capacity old.level fill new.level × (new ≡ record old { produced = new.produced; level = new.level; waiting = None })

  -- the end was sent
  abbrev pub Ends : U → Feeding T E → U → Feeding T E → Type 0
  Ends from old to new = (old.sent ≡ None)
      × ((cause : Cause E) × Brings from old.waiting (Ready (End cause)) to × (new ≡ record old { waiting = None; sent = Some cause }))

  abbrev pub Pumps : U → Feeding T E → Fill → U → Feeding T E → Type 0
  Pumps from old Took to new = Puts from old Took to new
  Pumps from old Overwrote to new = Puts from old Overwrote to new
  Pumps from old Dropped to new = Puts from old Dropped to new
  Pumps from old Full to new = ⊥
  Pumps from old Pending to new = (old.sent ≡ None) × Brings from old.waiting IsPending to × (new ≡ old)
  Pumps from old Ended to new = Ends from old to new ⊎ ((old.sent ≢ None) × (to ≡ from) × (new ≡ old))

  -- what a pump did that does not wait: the same, or what it brought found no place and waits
  abbrev pub MayPump : U → Feeding T E → Option Fill → U → Feeding T E → Type 0
  MayPump from old None to new = (old.sent ≡ None) × WasFull old.capacity old.produced × (old.capacity ≤ old.level)
      × ((event : Event T E) × Brings from old.waiting (Ready event) to × HasToWait old.policy event × (new ≡ record old { waiting = Some event }))
  MayPump from old (Some fill) to new = Pumps from old fill to new

module _ {T E : Type 0} where
  -- what waits was put
  abbrev pub Settles : Option (Event T E) → Feeding T E → Feeding T E → Type 0
  Settles None old new = new ≡ old
  Settles (Some (Value x)) old new = ((fill : Fill) × Filled old.capacity old.policy old.produced x fill new.produced × Levels old.capacity old.level fill new.level)
      × (new ≡ record old { produced = new.produced; level = new.level; waiting = None })
  Settles (Some (End cause)) old new = new ≡ record old { waiting = None; sent = Some cause }

  -- what waits was put, and then an end was sent, unless one was
  abbrev pub Closes : Option (Cause E) → Feeding T E → Feeding T E → Type 0
  Closes None old new = (settled : Feeding T E) × Settles old.waiting old settled × (new ≡ record settled { sent = Some (after_cancel settled.sent) })
  Closes (Some cause) old new = new ≡ old
