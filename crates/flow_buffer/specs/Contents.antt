-- A buffer in one task: what became of every value that its source produced, and what a call makes of it.
use Rattle.std.specs.Prelude.{◌≡◌, ℕ, ◌+◌, ◌<◌, Bool, true, false, cond, List, [], ◌∷◌, ◌++◌, length}
use Rattle.flow_terms.specs.declared.policy.Policy.{Policy}
use Rattle.flow_terms.specs.declared.policy.Policy.TheVariants.{DropOldest, DropLatest}
use Rattle.flow_terms.specs.declared.fill.Fill.{Fill}
use Rattle.flow_terms.specs.declared.fill.Fill.TheVariants.{Took, Overwrote, Dropped as DroppedIt, Full, Pending, Ended}
use Rattle.flow_buffer.specs.declared.side.Fate.{Fate}
use Rattle.flow_buffer.specs.declared.side.Fate.TheVariants.{Taken, Stored, Dropped}
use Rattle.flow_buffer.specs.History.{is_taken, is_stored, is_dropped, picked, Rises}

pub record Contents (T : Type 0) : Type 0 where
  pub capacity : ℕ
  pub policy : Policy
  -- every produced value, in order
  pub history : List (Fate × T)
  -- it was cancelled before its end, and what it stored is in no list any more
  pub given_up : Bool

module _ {T : Type 0} where
  -- nothing was produced yet
  abbrev pub nothing : ℕ → Policy → Contents T
  nothing capacity policy = record { capacity = capacity; policy = policy; history = []; given_up = false }

  -- the values that were taken, that are stored and that were dropped, with their indexes
  abbrev pub taken_of : Contents T → List (ℕ × T)
  taken_of c = picked is_taken 0 c.history

  abbrev pub stored_of : Contents T → List (ℕ × T)
  stored_of c = cond c.given_up [] (picked is_stored 0 c.history)

  abbrev pub dropped_of : Contents T → List (ℕ × T)
  dropped_of c = picked is_dropped 0 c.history

  -- the indexes of each list rise; each value has one fate, so it stands in one list
  abbrev pub IsRising : Contents T → Type 0
  IsRising c = Rises 0 (taken_of c) × Rises 0 (stored_of c) × Rises 0 (dropped_of c)

  -- taken values lie below stored ones: behind a stored one none is taken
  abbrev pub IsOrdered : List (Fate × T) → Type 0
  IsOrdered [] = Unit {0}
  IsOrdered ((Stored, x) ∷ later) = picked is_taken 0 later ≡ []
  IsOrdered ((Taken, x) ∷ later) = IsOrdered later
  IsOrdered ((Dropped, x) ∷ later) = IsOrdered later

  -- the oldest stored value gets that fate
  abbrev pub oldest : Fate → List (Fate × T) → List (Fate × T)
  oldest fate [] = []
  oldest fate ((Stored, x) ∷ later) = (fate, x) ∷ later
  oldest fate ((Taken, x) ∷ later) = (Taken, x) ∷ oldest fate later
  oldest fate ((Dropped, x) ∷ later) = (Dropped, x) ∷ oldest fate later

  abbrev pub turned : Fate → Contents T → Contents T
  turned fate c = record c { history = oldest fate c.history }

  -- a value more, of that fate
  abbrev pub produced : Fate → T → Contents T → Contents T
  produced fate x c = record c { history = c.history ++ (fate, x) ∷ [] }

  -- a fill with x: where there is room it is stored, else the policy says what is dropped
  abbrev pub FillsTo : T → Fill → Contents T → Contents T → Type 0
  FillsTo x Took c d = (length (stored_of c) < c.capacity) × (d ≡ produced Stored x c)
  FillsTo x Overwrote c d = (c.policy ≡ DropOldest) × (length (stored_of c) ≡ c.capacity) × (d ≡ produced Stored x (turned Dropped c))
  FillsTo x DroppedIt c d = (c.policy ≡ DropLatest) × (length (stored_of c) ≡ c.capacity) × (d ≡ produced Dropped x c)
  FillsTo x Full c d = ⊥
  FillsTo x Pending c d = ⊥
  FillsTo x Ended c d = ⊥

  -- a take of x, the oldest stored value
  abbrev pub TakesTo : T → Contents T → Contents T → Type 0
  TakesTo x c d = ((index : ℕ) × (others : List (ℕ × T)) × (stored_of c ≡ (index, x) ∷ others)) × (d ≡ turned Taken c)

  -- a fill with x, and a take of it, where none is stored
  abbrev pub PassesTo : T → Contents T → Contents T → Type 0
  PassesTo x c d = (stored_of c ≡ []) × ((filled : Contents T) × FillsTo x Took c filled × TakesTo x filled d)

  -- a cancellation gives up what is stored
  abbrev pub GivesUp : Contents T → Contents T → Type 0
  GivesUp c d = d ≡ record c { given_up = true }

  -- every produced value was taken or dropped
  abbrev pub IsAllTold : Contents T → Type 0
  IsAllTold c = c.given_up ≡ false → length (taken_of c) + length (dropped_of c) ≡ length c.history
