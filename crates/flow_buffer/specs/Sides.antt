-- How contracts see the two sides.
use Rattle.std.specs.Prelude.{◌≡◌, ℕ, ◌+◌, ◌-◌, ◌^◌, ◌≤◌, min, Bool, true, false, cond, ◌⊎◌, ⊤, Option, Some, None, List, [], ◌∷◌, ◌++◌, length}
use Rattle.atomic_table.specs.Seated.{TableId}
use Rattle.atomic_table.specs.declared.badge.Badge.{Badge}
use Rattle.crossbeam_channel.specs.declared.flavors.array.Key.{Key}
use Rattle.flow_buffer.specs.declared.side.Fate.{Fate}
use Rattle.cold_flow.specs.declared.cause.Cause.{Cause}
use Rattle.flow_terms.specs.declared.policy.Policy.{Policy}
use Rattle.flow_terms.specs.declared.policy.Policy.TheVariants.{Suspend, DropOldest, DropLatest}
use Rattle.flow_terms.specs.declared.fill.Fill.{Fill}
use Rattle.flow_terms.specs.declared.fill.Fill.TheVariants.{Took, Overwrote, Dropped, Full, Pending, Ended}
use Rattle.cold_flow.specs.declared.event.Event.{Event}
use Rattle.cold_flow.specs.declared.event.Event.TheVariants.{Value, End}
use Rattle.flow_buffer.specs.History.{is_stored, picked, marked, DropsOne, Rises, IsDecided}

-- which channel it is
pub record Channel (T E : Type 0) : Type 0 where
  pub table : TableId
  pub key : Badge (Key (Event T E))

-- A feed: what was produced, with what was dropped of it, how many values the channel held when the last one was put in, what came
-- and waits for a place, and the end that was sent. It is the channel that tells that number, at the step by which it took the value.
pub record Feeding (T E : Type 0) : Type 0 where
  pub channel : Channel T E
  pub capacity : ℕ
  pub policy : Policy
  pub produced : List (Bool × T)
  pub level : ℕ
  pub waiting : Option (Event T E)
  pub sent : Option (Cause E)

-- a drain: what was taken, with its indexes, and with the end what became of all that was produced
pub record Draining (T E : Type 0) : Type 0 where
  pub channel : Channel T E
  pub lossy : Bool
  pub taken : List (ℕ × T)
  pub end : Option (Cause E)
  pub history : List (Fate × T)

abbrev pub may_drop : Policy → Bool
may_drop Suspend = false
may_drop DropOldest = true
may_drop DropLatest = true

-- a value was dropped
abbrev pub is_loss : Fill → Bool
is_loss Took = false
is_loss Overwrote = true
is_loss Dropped = true
is_loss Full = false
is_loss Pending = false
is_loss Ended = false

-- a count that stays where it is at its greatest
abbrev pub saturated : ℕ → ℕ
saturated n = min n (2 ^ 64 - 1)

module _ {T : Type 0} where
  -- how many were dropped
  abbrev pub drops : List (Bool × T) → ℕ
  drops [] = 0
  drops (e ∷ l) = cond e.0 (drops l + 1) (drops l)

  -- at one moment k of the produced values were stored
  abbrev pub WasFull : ℕ → List (Bool × T) → Type 0
  WasFull k produced = (history : List (Fate × T)) × (marked history ≡ produced) × (length (picked is_stored 0 history) ≡ k)

  -- what became of x, and of the oldest value where x took its place
  abbrev pub Filled : ℕ → Policy → List (Bool × T) → T → Fill → List (Bool × T) → Type 0
  Filled k policy old x Took new = new ≡ old ++ (false, x) ∷ []
  Filled k policy old x Overwrote new = (policy ≡ DropOldest) × WasFull k old
      × ((rest : List (Bool × T)) × DropsOne old rest × (new ≡ rest ++ (false, x) ∷ []))
  Filled k policy old x Dropped new = (policy ≡ DropLatest) × WasFull k old × (new ≡ old ++ (true, x) ∷ [])
  Filled k policy old x Full new = ⊥
  Filled k policy old x Pending new = ⊥
  Filled k policy old x Ended new = ⊥

-- A value is dropped only where the channel of k places was full when the last one was put in. What is dropped puts none in.
abbrev pub Levels : ℕ → ℕ → Fill → ℕ → Type 0
Levels k level Took new = new ≤ level + 1
Levels k level Overwrote new = (k ≤ level) × (new ≤ level + 1)
Levels k level Dropped new = (k ≤ level) × (new ≡ level)
Levels k level Full new = ⊥
Levels k level Pending new = ⊥
Levels k level Ended new = ⊥

module _ {T E : Type 0} where
  -- the end that the upstream gave, if it did: it was sent, or it waits for a place
  abbrev pub seen_end : Option (Cause E) → Option (Event T E) → Option (Cause E)
  seen_end (Some cause) waiting = Some cause
  seen_end None None = None
  seen_end None (Some (Value x)) = None
  seen_end None (Some (End cause)) = Some cause

  -- once an end was sent nothing waits
  abbrev pub NothingAfter : Option (Cause E) → Option (Event T E) → Type 0
  NothingAfter None waiting = ⊤
  NothingAfter (Some cause) waiting = waiting ≡ None

  -- what has to wait where the channel is full: a value as the policy says, and the end always
  abbrev pub HasToWait : Policy → Event T E → Type 0
  HasToWait policy (Value x) = policy ≡ Suspend
  HasToWait policy (End cause) = ⊤

  -- with the end it is known what became of all that was produced
  abbrev pub IsEndKnown : Option (Cause E) → Bool → List (ℕ × T) → List (Fate × T) → Type 0
  IsEndKnown None lossy taken history = Unit {0}
  IsEndKnown (Some cause) lossy taken history = IsDecided lossy taken history

  -- how many were taken once this message came, and the end, if it is that
  abbrev pub taken_after : ℕ → Event T E → ℕ
  taken_after taken (Value x) = min (taken + 1) (2 ^ 64 - 1)
  taken_after taken (End cause) = taken

  abbrev pub end_by : Event T E → Option (Cause E)
  end_by (Value x) = None
  end_by (End cause) = Some cause

  -- what a drain gave: a value at a later index, or the end, once all that was produced was taken or dropped
  abbrev pub Gave : Draining T E → Event T E → Draining T E → Type 0
  Gave old (Value x) new = (old.end ≡ None) × ((i : ℕ) × (new ≡ record old { taken = old.taken ++ (i, x) ∷ [] })) × Rises 0 new.taken
  Gave old (End cause) new = (new.end ≡ Some cause) × (new.channel ≡ old.channel) × (new.lossy ≡ old.lossy) × (new.taken ≡ old.taken)
      × IsDecided new.lossy new.taken new.history × ((old.end ≡ None) ⊎ (new ≡ old))

  -- what a drain gave that did not wait: the same, or nothing, which changed nothing
  abbrev pub MayGive : Draining T E → Option (Event T E) → Draining T E → Type 0
  MayGive old None new = (old.end ≡ None) × (new ≡ old)
  MayGive old (Some event) new = Gave old event new
