-- What a thread that waits for a run was given by it.
use Rattle.std.specs.Prelude.{◌≡◌, ◌⊎◌, ℕ, List, [], ◌++◌, length}
use Rattle.futures.specs.declared.task.Poll.{Poll}
use Rattle.futures.specs.declared.task.Poll.TheVariants.{Ready}
use Rattle.cold_flow.specs.declared.cause.Cause.{Cause}
use Rattle.cold_flow.specs.declared.event.Event.{Event}
use Rattle.cold_flow.specs.declared.event.Event.TheVariants.{End}
use Rattle.cold_flow.specs.Trace.{Trace, ended_by}
use Rattle.cold_flow.specs.Polled.{Gave, GaveAll}

module _ {R A E : Type 0} (polled : R → Poll (Event A E) → R → Type 0) where
  -- polls that answered pending, if any, and then one that gave this
  abbrev pub Came : R → Event A E → R → Type 0
  Came old event new = (mid : R) × Gave polled old [] mid × polled mid (Ready event) new

  -- the run gave some values, which were added to a list
  abbrev pub TookSome : R → List A → List A → R → Type 0
  TookSome old before after new = (xs : List A) × (after ≡ before ++ xs) × Gave polled old xs new

  -- the same of so many values
  abbrev pub TookAll : ℕ → R → List A → List A → R → Type 0
  TookAll count old before after new = (xs : List A) × (after ≡ before ++ xs) × (length xs ≡ count) × Gave polled old xs new

  -- the run gave some values, which were added to a list, and then this end, as it could at first
  abbrev pub EndedAfter : (R → Trace A E → Type 0) → R → List A → List A → Cause E → R → Type 0
  EndedAfter may old before after cause new = (xs : List A) × (mid : R) × (after ≡ before ++ xs)
      × Gave polled old xs mid × polled mid (Ready (End cause)) new × may old (ended_by xs cause)

  -- the run gave some values, which were added to a list, and no more were there when all were let go, or it ended
  abbrev pub TookUntil : R → List A → List A → R → Type 0
  TookUntil old before after new = (xs : List A) × (after ≡ before ++ xs) × (Gave polled old xs new ⊎ ((cause : Cause E) × GaveAll polled old xs cause new))
