-- What the state of a buffer in one task shows, and how its calls change it.
use Rattle.std.specs.Prelude.{◌≡◌, ℕ, ◌+◌, ◌-◌, ◌^◌, ◌<◌, ◌≤◌, min, true, [], ◌∷◌, ◌++◌, Option, Some, None, length, map, drop}
use Rattle.circular_buffer.specs.Buffer.{buffer}
use Rattle.cold_flow.specs.declared.cause.Cause.TheVariants.{Cancelled}
use Rattle.flow_terms.specs.declared.policy.Policy.TheVariants.{Suspend, DropOldest, DropLatest}
use Rattle.flow_buffer.specs.declared.ending.Ending.TheVariants.{Given}
use Rattle.flow_terms.specs.declared.fill.Fill.{Fill}
use Rattle.flow_terms.specs.declared.fill.Fill.TheVariants.{Took, Overwrote, Dropped, Full, Pending, Ended}
use Rattle.flow_buffer.specs.declared.store.Store.{Store}
use Rattle.flow_buffer.specs.Contents.{Contents, taken_of, stored_of, dropped_of, IsRising, IsOrdered}
use Rattle.flow_buffer.specs.Sides.{saturated}

-- one more, of a count that stays where it is at its greatest
abbrev pub one_more : ℕ → ℕ
one_more count = min (count + 1) (2 ^ 64 - 1)

module _ {T E : Type 0} where
  -- the store shows the contents: it holds the stored values, at most as many as the capacity, and as many were taken and dropped
  pub record Shows (s : Store T E) (c : Contents T) : Type 0 where
    pub capacity : c.capacity ≡ s.held.capacity
    pub policy : c.policy ≡ s.policy
    pub values : map (λ e. e.1) (stored_of c) ≡ s.held.items
    pub taken : s.taken ≡ saturated (length (taken_of c))
    pub dropped : s.dropped ≡ saturated (length (dropped_of c))
    pub rising : IsRising c
    pub within : length (stored_of c) ≤ c.capacity
    pub ordered : IsOrdered c.history
    pub gave_up : c.given_up ≡ true → s.ending ≡ Given Cancelled

  -- whatever the old store showed was changed so, and the new one shows it
  abbrev pub Becomes : Store T E → (Contents T → Contents T → Type 0) → Store T E → Type 0
  Becomes old change new = (c : Contents T) → Shows old c → (d : Contents T) × change c d × Shows new d

  -- full, and the policy is to wait
  abbrev pub IsStuck : Store T E → Type 0
  IsStuck s = (s.policy ≡ Suspend) × (length s.held.items ≡ s.held.capacity)

  -- how x was put into the ring
  abbrev pub Puts : Store T E → T → Fill → Store T E → Type 0
  Puts old x Took new = (length old.held.items < old.held.capacity) × (new ≡ record old { held = buffer (old.held.items ++ x ∷ []) old.held.capacity })
  Puts old x Overwrote new = (old.policy ≡ DropOldest) × (length old.held.items ≡ old.held.capacity)
      × (new ≡ record old { held = buffer (drop 1 old.held.items ++ x ∷ []) old.held.capacity; dropped = one_more old.dropped })
  Puts old x Dropped new = (old.policy ≡ DropLatest) × (length old.held.items ≡ old.held.capacity)
      × (new ≡ record old { dropped = one_more old.dropped })
  Puts old x Full new = ⊥
  Puts old x Pending new = ⊥
  Puts old x Ended new = ⊥

  -- how the oldest value was taken out of it
  abbrev pub Gets : Store T E → Option T → Store T E → Type 0
  Gets old None new = (old.held.items ≡ []) × (new ≡ old)
  Gets old (Some x) new = (old.held.items ≡ x ∷ new.held.items)
      × (new ≡ record old { held = buffer new.held.items old.held.capacity; taken = one_more old.taken })
