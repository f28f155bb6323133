-- What the steps of the calls make of what contracts see.
use Rattle.std.specs.Prelude.{◌≡◌, ℕ, ◌+◌, ◌-◌, ◌<◌, ◌≤◌, Bool, true, false, not, ◌||◌, ◌⊎◌, ◌==◌, nat_lt, if◌then◌else◌, [], ◌∷◌, ◌++◌, length, drop, map}
use Rattle.std.specs.List.{AllByRecursion, filter, list_all}
use Rattle.shared_core.specs.declared.state.emissions.Fate.{Fate}
use Rattle.shared_core.specs.declared.state.emissions.Fate.TheVariants as code
use Rattle.shared_core.specs.Flow.{State, Standing, does_wait, capacity, places, settle}
use Rattle.shared_core.specs.Calls as calls
use Rattle.shared_core.specs.Shown.{Seen, seen_of}
use Rattle.shared_core.specs.Story.{IsTold}

-- one more value pending for each live subscription, and in a replay cache that keeps the latest ones
abbrev pub with_accepted : {T : Type 0} → T → Seen T → Seen T
with_accepted v seen = record seen {
  next_number = seen.next_number + 1;
  cache = drop ((length seen.cache + 1) - seen.parameters.replay) (seen.cache ++ v ∷ []);
  live = map (λ e. (e.0, e.1 ++ v ∷ [])) seen.live;
}

-- each live subscription that has `limit` values pending loses the oldest of them
abbrev pub without_oldest_of : {T : Type 0} → ℕ → Seen T → Seen T
without_oldest_of limit seen =
    record seen { live = map (λ e. if length e.1 == limit then (e.0, drop 1 e.1) else e) seen.live }

-- one more ticket is out
abbrev pub with_ticket : {T : Type 0} → Standing T → Seen T → Seen T
with_ticket standing seen = record seen {
  tickets = seen.tickets + 1;
  out = seen.out ++ (seen.parameters.first + seen.tickets, standing) ∷ [];
}

-- how many emissions wait
abbrev pub waiting_in : {T : Type 0} → Seen T → ℕ
waiting_in seen = length (filter (λ e. does_wait e.1) seen.out)

abbrev pub room_in : {T : Type 0} → Seen T → Bool
room_in seen = list_all (λ e. nat_lt (length e.1) (places seen.parameters)) seen.live

-- what an emission comes to
abbrev pub fate_in : {T : Type 0} → Seen T → calls.Fate
fate_in seen =
    calls.fate_by (length seen.live) (capacity seen.parameters) (waiting_in seen) (room_in seen) seen.parameters.overflow

-- What the code takes an emission's fate for. Where the oldest values are dropped it asks nobody for room: an emission that
-- enters there pushes in, and finds nobody with all places taken.
abbrev pub HasFate : {T : Type 0} → Seen T → Fate → Type 0
HasFate seen code.Enters = calls.enters ≡ fate_in seen
HasFate seen code.PushesIn = (calls.pushes_in ≡ fate_in seen) ⊎ ((calls.enters ≡ fate_in seen) × (room_in seen ≡ true))
HasFate seen code.HandedOver = calls.handed_over ≡ fate_in seen
HasFate seen code.Dropped = calls.dropped ≡ fate_in seen
HasFate seen code.HeldUp = calls.held_up ≡ fate_in seen

-- an accepted emission is finished in a flow with places, and else where each live subscription has fewer values pending
-- than were accepted from it on
abbrev pub finished_in : {T : Type 0} → ℕ → Seen T → Bool
finished_in i seen =
    not (capacity seen.parameters == 0)
    || list_all (λ e. nat_lt (i + length e.1) (seen.next_number - seen.parameters.first)) seen.live

-- what holds of every state that some list of calls leaves
pub record IsSound {T : Type 0} (M : State T) : Type 0 where
  -- each subscription's received and lost indexes run on from its start
  pub told : AllByRecursion (IsTold (length M.accepted)) M.subscriptions
  pub reset : M.reset_at ≤ length M.accepted

-- whatever the old state shows, the new one shows it settled
abbrev pub Settles : {T : Type 0} → Seen T → Seen T → Type 0
Settles {T} old new = (M : State T) → IsSound M → old ≡ seen_of M → new ≡ seen_of (settle M)

-- whatever the old state shows, the new one shows a state in which what is left to settle comes to the same
abbrev pub Settling : {T : Type 0} → Seen T → Seen T → Type 0
Settling {T} old new =
    (M : State T) → IsSound M → old ≡ seen_of M → (N : State T) × IsSound N × (new ≡ seen_of N) × (settle N ≡ settle M)

-- one step of settling, or none where nothing is left to settle
abbrev pub SettlesOnce : {T : Type 0} → Seen T → Bool → Seen T → Type 0
SettlesOnce old true new = Settling old new × (waiting_in new < waiting_in old)
SettlesOnce old false new = Settles old new
