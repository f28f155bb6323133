-- What contracts see of a shared flow, and which states of the model a program's state shows.
use Rattle.std.specs.Prelude.{◌≡◌, ℕ, Bool, true, false, ◌+◌, ◌⊎◌, ◌==◌, if◌then◌else◌, List, [], ◌∷◌, length}
use Rattle.std.specs.List.{Contains, list_any}
use Rattle.shared_core.specs.Flow.{Parameters, State, Standing, is_out, Subscription, rest, pending_values, cache, empty, number}
use Rattle.shared_core.specs.Calls.{Call, after}

pub record Seen (T : Type 0) : Type 0 where
  pub parameters : Parameters
  -- the number that the next accepted emission gets
  pub next_number : ℕ
  pub cache : List T
  -- each live subscription's number, and its pending values
  pub live : List (ℕ × List T)
  -- the number of each subscription that wasn't given all of its prelude, and the values left
  pub rests : List (ℕ × List T)
  -- how many subscriptions and tickets were given
  pub subscriptions : ℕ
  pub tickets : ℕ
  -- the number of each ticket that is out, with its waiting emission or the index where it was accepted
  pub out : List (ℕ × Standing T)

-- those that pass the test, numbered from n on
abbrev pub numbered : {X Y : Type 0} → (X → Bool) → (X → Y) → ℕ → List X → List (ℕ × Y)
numbered test shape n [] = []
numbered test shape n (x ∷ rest) =
    if test x then (n, shape x) ∷ numbered test shape (n + 1) rest else numbered test shape (n + 1) rest

-- the live ones, numbered from n on
abbrev pub live_from : {T : Type 0} → List (ℕ × T) → ℕ → List (Subscription T) → List (ℕ × List T)
live_from accepted n subscriptions = numbered (λ s. s.live) (pending_values accepted) n subscriptions

abbrev pub is_some_left : {T : Type 0} → List T → Bool
is_some_left [] = false
is_some_left (_ ∷ _) = true

-- those with some of their prelude left, numbered from n on
abbrev pub rests_from : {T : Type 0} → ℕ → List (Subscription T) → List (ℕ × List T)
rests_from n subscriptions = numbered (λ s. is_some_left (rest s)) rest n subscriptions

-- those that are out, numbered from n on
abbrev pub out_from : {T : Type 0} → ℕ → List (Standing T) → List (ℕ × Standing T)
out_from n tickets = numbered is_out (λ standing. standing) n tickets

unfoldable pub seen_of : {T : Type 0} → State T → Seen T
seen_of M = record {
  parameters = M.parameters;
  next_number = number M (length M.accepted);
  cache = cache M;
  live = live_from M.accepted M.parameters.first M.subscriptions;
  rests = rests_from M.parameters.first M.subscriptions;
  subscriptions = length M.subscriptions;
  tickets = length M.tickets;
  out = out_from M.parameters.first M.tickets;
}

-- what is left of the prelude of the subscription with this number
abbrev pub rest_of : {T : Type 0} → ℕ → List (ℕ × List T) → List T
rest_of n [] = []
rest_of n (entry ∷ rests) = if entry.0 == n then entry.1 else rest_of n rests

-- the live subscription with this number has so many values pending, what is left of its prelude counted in; 0 where none
-- has the number
abbrev pub CountsPending : {T : Type 0} → ℕ → Seen T → ℕ → Type 0
CountsPending {T} n seen count =
    ((pending : List T) × Contains seen.live (n, pending) × (count ≡ length (rest_of n seen.rests) + length pending))
    ⊎ ((list_any (λ entry. entry.0 == n) seen.live ≡ false) × (count ≡ 0))

-- M is what some list of calls left of the empty state
abbrev pub IsReached : {T : Type 0} → State T → Type 0
IsReached {T} M = (p : Parameters) × (calls : List (Call T)) × (M ≡ after calls (empty p))

-- contracts see in the program's state what they would see in M
pub record Shows {T : Type 0} (seen : Seen T) (M : State T) : Type 0 where
  pub reached : IsReached M
  pub same : seen ≡ seen_of M

-- On a state that shows M, the call gives the answer of the model and leaves a state that shows the model after it.
abbrev pub Follows : {T R : Type 0} → (State T → R × State T) → Seen T → R → Seen T → Type 0
Follows {T} call old result new = (M : State T) → Shows old M → (result ≡ (call M).0) × Shows new (call M).1

-- the same of a call that changes nothing
abbrev pub Reads : {T R : Type 0} → (State T → R) → Seen T → R → Type 0
Reads {T} answer now result = (M : State T) → Shows now M → result ≡ answer M

-- the same of a call without an answer
abbrev pub Leaves : {T : Type 0} → (State T → State T) → Seen T → Seen T → Type 0
Leaves {T} call old new = (M : State T) → Shows old M → Shows new (call M)
