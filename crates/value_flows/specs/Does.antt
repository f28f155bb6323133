-- What each call does to what lies under the lock.
use Rattle.std.specs.Prelude.{◌≡◌, ◌≢◌, ℕ, ◌+◌, ◌-◌, ◌<◌, ◌≤◌, max, Option, Some, None, List, [], ◌∷◌, ◌++◌, length, replicate, slice_get, slice_set}
use Rattle.std.specs.List.{All}
use Rattle.circular_buffer.specs.Buffer.{Buffer, buffer, keep_last}
use Rattle.flow_terms.specs.declared.policy.Policy.{Policy}
use Rattle.flow_terms.specs.declared.policy.Policy.TheVariants as policy
use Rattle.value_flows.specs.declared.config.Config.{Config}
use Rattle.value_flows.specs.declared.round.Round.{Round}
use Rattle.value_flows.specs.declared.round.Round.TheVariants as round
use Rattle.value_flows.specs.declared.ring.Ring.{Ring}
use Rattle.value_flows.specs.declared.ring.Entrance.{Entrance}
use Rattle.value_flows.specs.declared.ring.Entrance.TheVariants as entrance
use Rattle.value_flows.specs.declared.ring.Standing.{Standing}
use Rattle.value_flows.specs.declared.ring.Standing.TheVariants as standing
use Rattle.value_flows.specs.Making.{places}
use Rattle.value_flows.specs.Cursors.{HasRoom}

module _ {T : Type 0} where
  -- a new ring accepted nothing, has a place at least, and no fewer than the replay cache may have, and no subscription
  pub record IsFirst (s : Ring T) : Type 0 where
    pub empty : s.values.items ≡ []
    pub some_place : 0 < s.values.capacity
    pub replays : s.replay ≤ s.values.capacity
    pub number : s.next ≡ 0
    pub forgotten : s.forgotten ≡ 0
    pub nobody : All (λ cursor. cursor ≡ None) s.cursors

  -- a ring that was made with this
  abbrev pub IsMadeWith : Config → Ring T → Type 0
  IsMadeWith c s =
      s ≡ record { values = buffer [] (places c); next = 0; replay = c.replay; forgotten = 0; cursors = replicate c.subscribers None; policy = c.policy }

  -- the number of the oldest value that is kept, or where there is none, of the next one
  abbrev pub oldest_of : Ring T → ℕ
  oldest_of s = s.next - length s.values.items

  -- the replay cache begins there: as many as it may have before the end, and not before it was emptied last
  abbrev pub cache_start : Ring T → ℕ
  cache_start s = max s.forgotten (s.next - s.replay)

  -- each subscription has a place free: fewer values pending than there are places
  abbrev pub HaveRoom : Ring T → Type 0
  HaveRoom s = All (HasRoom s.next s.values.capacity) s.cursors

  -- what is open to an emission
  abbrev pub Enters : Ring T → Entrance → Type 0
  Enters s entrance.Open = s.policy ≢ policy.DropOldest → HaveRoom s
  Enters s entrance.Dropped = (s.policy ≡ policy.DropLatest) × ¬ HaveRoom s
  Enters s entrance.Full = (s.policy ≡ policy.Suspend) × ¬ HaveRoom s

  -- one value more is accepted: of the values, the latest are kept, as many as there are places
  abbrev pub with_value : T → Ring T → Ring T
  with_value value s = record s { values = buffer (keep_last s.values.capacity (s.values.items ++ value ∷ [])) s.values.capacity; next = s.next + 1 }

  -- a place is another subscription's, or free, or its subscription is to receive this value next
  abbrev pub moved : ℕ → Option ℕ → Ring T → Ring T
  moved place cursor s = record s { cursors = slice_set s.cursors place cursor }

  -- the value with this number is kept
  abbrev pub IsKept : Ring T → ℕ → Type 0
  IsKept s number = (oldest_of s ≤ number) × (number < s.next)

  -- the next value of a subscription has this number: it is kept, or so many from it on were let go, or it isn't accepted yet
  abbrev pub Stands : Ring T → ℕ → Standing → Type 0
  Stands s number standing.There = IsKept s number
  Stands s number (standing.Behind count) = (number + count ≡ oldest_of s) × (0 < count)
  Stands s number standing.Nothing = s.next ≤ number

  -- An emission adds its value: only under `DropOldest` where a subscription has no place free. One that empties the replay cache has
  -- it begin at the next value. A subscription begins at a free place, where the replay cache does; it is given a value that is kept, or
  -- is told of all from its next one on that aren't; and as it ends, its place is free
  abbrev pub Does : Ring T → Round → Ring T → Type 0
  Does s round.Look t = t ≡ s
  Does s round.Emit t = (value : T) × (t ≡ with_value value s) × (s.policy ≢ policy.DropOldest → HaveRoom s)
  Does s (round.Begin place start) t = (t ≡ moved place (Some start) s) × (start ≡ cache_start s) × (slice_get s.cursors place ≡ Some None)
  Does s (round.Give place number) t = (t ≡ moved place (Some (number + 1)) s) × IsKept s number
  Does s (round.Miss place from count) t = (t ≡ moved place (Some (from + count)) s) × (from + count ≡ oldest_of s) × (0 < count)
  Does s (round.End place) t = t ≡ moved place None s
  Does s round.Forget t = t ≡ record s { forgotten = s.next }
