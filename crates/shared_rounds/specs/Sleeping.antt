-- Who sleeps where, and the room for those whom a call wakes.
use Rattle.std.specs.Prelude.{◌≢◌, ◌≡◌, ◌↔◌, ◌⊎◌, ℕ, ◌+◌, ◌≤◌, List, Option, Some, None, Contains, vec_capacity}
use Rattle.std.specs.BinaryHeap.{IsHeap}
use Rattle.std.specs.Ordering.{nat_cmp, ordering_then}
use Rattle.slab.specs.Slab.{Slab, get, slab_len}
use Rattle.flow_terms.specs.declared.ids.Ticket.{Ticket}
use Rattle.shared_core.specs.declared.config.Config.{Config}
use Rattle.shared_lane.specs.Ordering.{IsBefore}
use Rattle.shared_rounds.specs.declared.wait_list.Sleeper.{Sleeper}
use Rattle.shared_rounds.specs.declared.wait_list.WakeList.{WakeList}

-- the one with this number sleeps under this key
abbrev pub SleepsAt : Slab Sleeper → Option ℕ → ℕ → Type 0
SleepsAt sleeping key number =
    (k : ℕ) × (sleeper : Sleeper) × (key ≡ Some k) × (get sleeping k ≡ Some sleeper) × (sleeper.number ≡ number)

-- a ticket isn't before the first of those that have to wait, and isn't the one that is gone
abbrev pub SleepsOn : Option Ticket → Option ℕ → ℕ → Type 0
SleepsOn first gone ticket = (IsBefore ticket first → ⊥) × (gone ≢ Some ticket)

abbrev pub NobodySleeps : Slab Sleeper → Type 0
NobodySleeps sleeping = slab_len sleeping ≡ 0

-- those of whom this holds sleep on where they slept, by the same wakers, and nobody else sleeps
abbrev pub OnlyThese : (ℕ → Type 0) → Slab Sleeper → Slab Sleeper → Type 0
OnlyThese Stays old new = (key : ℕ) (sleeper : Sleeper) → (get new key ≡ Some sleeper) ↔ ((get old key ≡ Some sleeper) × Stays sleeper.number)

-- each entry but the one with this key is as it was
abbrev pub StayBut : Option ℕ → Slab Sleeper → Slab Sleeper → Type 0
StayBut wait_key old new = (key : ℕ) → wait_key ≢ Some key → get new key ≡ get old key

-- all sleep on but the one with this number under this key
abbrev pub AllBut : ℕ → ℕ → Slab Sleeper → Slab Sleeper → Type 0
AllBut number wait_key old new = (key : ℕ) (sleeper : Sleeper) → (get new key ≡ Some sleeper) ↔ ((get old key ≡ Some sleeper) × (key ≡ wait_key → sleeper.number ≢ number))

-- the entry is of the one with this number
abbrev pub HasNumber : Option Sleeper → ℕ → Type 0
HasNumber entry number = (sleeper : Sleeper) × (entry ≡ Some sleeper) × (sleeper.number ≡ number)

-- each entry is as it was, or is of the one with this number now, and was free or its own
abbrev pub Parks : ℕ → Slab Sleeper → Slab Sleeper → Type 0
Parks number old new = (key : ℕ) → (get new key ≡ get old key) ⊎ (HasNumber (get new key) number × ((get old key ≡ None) ⊎ HasNumber (get old key) number))

-- the ticket of each that sleeps stands in a list with its key
abbrev pub AreListed : List (ℕ × ℕ) → Slab Sleeper → Type 0
AreListed entries sleeping = (key : ℕ) (sleeper : Sleeper) → get sleeping key ≡ Some sleeper → Contains entries (sleeper.number, key)

-- the lowest ticket is on top
abbrev pub IsTicketHeap : {X : Type 0} → (X → ℕ × ℕ) → List X → Type 0
IsTicketHeap pair heap = IsHeap (λ x y. ordering_then (nat_cmp (pair y).0 (pair x).0) (nat_cmp (pair y).1 (pair x).1)) heap

-- none of the tickets in a list is before this one
abbrev pub NoneBefore : Option Ticket → List (ℕ × ℕ) → Type 0
NoneBefore first entries = (ticket key : ℕ) → Contains entries (ticket, key) → IsBefore ticket first → ⊥

-- there is room for all whom one call of a flow with this config may have to wake: all subscriptions, all emissions, and one that it ends
abbrev pub HasRoomFor : Config → WakeList → Type 0
HasRoomFor config wakes = (config.subscribers ≤ wakes.subscriptions.capacity) × (config.emits + 1 ≤ vec_capacity wakes.wakers)

-- there is as much room as before
abbrev pub HasAsMuchRoom : WakeList → WakeList → Type 0
HasAsMuchRoom before after = (after.subscriptions.capacity ≡ before.subscriptions.capacity) × (vec_capacity after.wakers ≡ vec_capacity before.wakers)
