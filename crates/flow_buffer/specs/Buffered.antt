-- What a buffer in one task did: to its source, and to what it holds.
use Rattle.std.specs.Prelude.{◌≡◌, ◌≢◌, [], ◌⊎◌, Some, None}
use Rattle.circular_buffer.specs.Buffer.{buffer}
use Rattle.futures.specs.declared.task.Poll.{Poll}
use Rattle.futures.specs.declared.task.Poll.TheVariants.{Ready, Pending as IsPending}
use Rattle.cold_flow.specs.declared.cause.Cause.{Cause}
use Rattle.cold_flow.specs.declared.cause.Cause.TheVariants.{Cancelled}
use Rattle.cold_flow.specs.declared.event.Event.{Event}
use Rattle.cold_flow.specs.declared.event.Event.TheVariants.{Value, End}
use Rattle.cold_flow.specs.Trace.{ended_by}
use Rattle.cold_flow.specs.Poll.{Traces, Within, After}
use Rattle.flow_buffer.specs.declared.ending.Ending.TheVariants.{Going, Kept, Given}
use Rattle.flow_terms.specs.declared.fill.Fill.{Fill}
use Rattle.flow_terms.specs.declared.fill.Fill.TheVariants.{Took, Overwrote, Dropped, Full, Pending, Ended}
use Rattle.flow_buffer.specs.declared.store.Store.{Store}
use Rattle.flow_buffer.specs.Endings.{given, seen}
use Rattle.flow_buffer.specs.Contents.{FillsTo, TakesTo, PassesTo, GivesUp, IsAllTold}
use Rattle.flow_buffer.specs.Stored.{Becomes, IsStuck}

module _ {U T E : Type 0} (may : U → Traces T E) where
  -- the source was asked, and gave x
  abbrev pub Gives : U → T → U → Type 0
  Gives from x to = After (may from) x (may to)

  -- the source was asked and gave a value, which was put as the fill says
  abbrev pub Produces : U → Store T E → Fill → U → Store T E → Type 0
  Produces from old fill to new = (old.ending ≡ Going) × (new.ending ≡ Going) × ((x : T) × Gives from x to × Becomes old (FillsTo x fill) new)

  -- the source was not asked
  abbrev pub AsksNothing : U → Store T E → U → Store T E → Type 0
  AsksNothing from old to new = (to ≡ from) × (new ≡ old)

  -- the source was asked and gave its end, which is kept
  abbrev pub Ends : U → Store T E → Store T E → Type 0
  Ends from old new = (old.ending ≡ Going) × (IsStuck old → ⊥)
      × ((cause : Cause E) × may from (ended_by [] cause) × (new ≡ record old { ending = Kept cause })) × Becomes old (λ c d. d ≡ c) new

  -- what a fill did: where the buffer is full and the policy is to wait, or once its end was seen, the source isn't asked
  abbrev pub Fills : U → Store T E → Fill → U → Store T E → Type 0
  Fills from old Took to new = Produces from old Took to new
  Fills from old Overwrote to new = Produces from old Overwrote to new
  Fills from old Dropped to new = Produces from old Dropped to new
  Fills from old Full to new = (old.ending ≡ Going) × IsStuck old × AsksNothing from old to new
  Fills from old Pending to new = (old.ending ≡ Going) × (IsStuck old → ⊥) × Within (may from) (may to) × (new ≡ old)
  Fills from old Ended to new = ((old.ending ≢ Going) × AsksNothing from old to new) ⊎ Ends from old new

  -- what a poll did: it gives the oldest held value, or where none is held it fills once and gives what came
  abbrev pub Takes : U → Store T E → Poll (Event T E) → U → Store T E → Type 0
  Takes from old (Ready (Value x)) to new = (given old.ending ≡ None) × (new.ending ≡ old.ending)
      × ((Becomes old (TakesTo x) new × (to ≡ from)) ⊎ ((old.ending ≡ Going) × Gives from x to × Becomes old (PassesTo x) new))
  Takes from old (Ready (End cause)) to new = (new ≡ record old { ending = Given cause }) × (old.held.items ≡ [])
      × Becomes old (λ c d. (d ≡ c) × IsAllTold c) new
      × (((old.ending ≡ Going) × may from (ended_by [] cause)) ⊎ ((seen old.ending ≡ Some cause) × (to ≡ from)))
  Takes from old IsPending to new = (old.ending ≡ Going) × (old.held.items ≡ []) × Within (may from) (may to) × (new ≡ old)

-- what a cancellation did: what is held is given up, unless the end was given before
abbrev pub Cancels : {T E : Type 0} → Store T E → Store T E → Type 0
Cancels old new =
    ((given old.ending ≡ None) × (new ≡ record old { held = buffer [] old.held.capacity; ending = Given Cancelled }) × Becomes old GivesUp new)
    ⊎ ((given old.ending ≢ None) × (new ≡ old))
