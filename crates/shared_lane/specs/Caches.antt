-- The replay cache, and the policy.
use Rattle.std.specs.Prelude.{◌≡◌, ℕ, ◌-◌, nat_le, if◌then◌else◌, List, map, length, slice_get, Option, None, Some, Bool, true, false}
use Rattle.circular_buffer.specs.Buffer.{keep_last}
use Rattle.shared_lane.specs.Law.{Entry}
use Rattle.flow_terms.specs.declared.policy.Policy.{Policy}
use Rattle.flow_terms.specs.declared.policy.Policy.TheVariants.{Suspend, DropOldest, DropLatest}
use Rattle.shared_lane.specs.declared.tickets.Standing.{Standing}

-- received values may be passed over
abbrev pub drops_values : Policy → Bool
drops_values Suspend = false
drops_values DropOldest = true
drops_values DropLatest = false

-- an emission may wait for room
abbrev pub may_wait : Policy → Bool
may_wait Suspend = true
may_wait DropOldest = false
may_wait DropLatest = false

abbrev pub word_of : Entry → ℕ
word_of e = e.1

-- these are the last words of the log
abbrev pub IsLastOf : List Entry → List ℕ → Type 0
IsLastOf log ws = keep_last (length ws) (map word_of log) ≡ ws

abbrev pub emitter_of : Entry → ℕ
emitter_of e = e.0

-- whose emission has the number n, where the first of the log has the number `first`
abbrev pub emitter_at : ℕ → List Entry → ℕ → Option ℕ
emitter_at first log n = if nat_le first n then slice_get (map emitter_of log) (n - first) else None

-- each of these was accepted, with its number, for its emitter
abbrev pub AreAccepted : ℕ → List Entry → List Standing → Type 0
AreAccepted first log standing = map (λ s. emitter_at first log s.number) standing ≡ map (λ s. Some s.emitter) standing
