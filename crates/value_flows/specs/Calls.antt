-- What the calls of an owner say of it, before the call and after it.
use Rattle.std.specs.Prelude.{◌≡◌, ◌≢◌, ℕ, ◌+◌, List, [], ◌∷◌, ◌++◌, length, slice_get, is_none, Some, None}
use Rattle.std.specs.List.{position}
use Rattle.round_lock.specs.Locking.{Locking}
use Rattle.flow_terms.specs.Lists.{IsPrefix}
use Rattle.round_lock.specs.History.{KnowsTaken, another, own_of, called}
use Rattle.flow_terms.specs.declared.policy.Policy.{Policy}
use Rattle.flow_terms.specs.declared.policy.Policy.TheVariants as policy
use Rattle.value_flows.specs.declared.round.Round.{Round}
use Rattle.value_flows.specs.declared.round.Round.TheVariants as round
use Rattle.value_flows.specs.declared.ring.Ring.{Ring}
use Rattle.value_flows.specs.Accepted.{accepted_in, IsLatest}
use Rattle.value_flows.specs.Does.{HaveRoom, cache_start, moved, with_value}

module _ {T : Type 0} where
  -- the values that the flow accepted, as far as an owner has seen
  abbrev pub accepted : Locking (Ring T) Round → List T
  accepted owner = accepted_in owner.log.seen

  -- what an owner finds: these calls were made before its own, by all owners; they begin with those that it had seen, have its own as
  -- its part, and left this ring
  pub record Finds (owner : Locking (Ring T) Round) (calls : List (ℕ × Round × Ring T)) (ring : Ring T) : Type 0 where
    pub seen : IsPrefix owner.log.seen calls
    pub own : owner.log.own ≡ own_of owner.pass calls
    pub latest : IsLatest (accepted_in calls) ring
    pub taken_in : KnowsTaken owner.pass owner.log.own owner.log.halved owner.log.taken calls

  -- an owner that has taken the lock, and has this ring
  abbrev pub holding : Ring T → List (ℕ × Round × Ring T) → Locking (Ring T) Round → Locking (Ring T) Round
  holding ring calls owner = record owner { log = record owner.log { held = Some ring; seen = calls } }

  -- an owner took the lock, and found this ring
  pub record Holds (before : Locking (Ring T) Round) (ring : Ring T) (after : Locking (Ring T) Round) : Type 0 where
    pub finds : Finds before after.log.seen ring
    pub only : after ≡ holding ring after.log.seen before

  -- an owner that has given the ring back, after this call
  abbrev pub giving : Round → Ring T → Locking (Ring T) Round → Locking (Ring T) Round
  giving call ring owner = record owner { log = called owner.log (Some (owner.pass, call, ring)) }

  -- the owner after a call, made after those, which left this ring
  abbrev pub after_call : List (ℕ × Round × Ring T) → Round → Ring T → Locking (Ring T) Round → Locking (Ring T) Round
  after_call calls call ring owner = record owner { log = called (record owner.log { seen = calls }) (Some (owner.pass, call, ring)) }

  -- one call that left the ring as it found it, or had only the replay cache begin later: the flow accepted nothing by it
  pub record Makes (call : Round) (left : Ring T → Ring T) (before after : Locking (Ring T) Round) : Type 0 where
    pub calls : List (ℕ × Round × Ring T)
    pub ring : Ring T
    pub finds : Finds before calls ring
    pub only : after ≡ after_call calls call (left ring) before
    pub same : accepted after ≡ accepted_in calls

  -- one call that had the flow accept this value, which has this number: how many were accepted before
  pub record Accepts (before : Locking (Ring T) Round) (number : ℕ) (value : T) (after : Locking (Ring T) Round) : Type 0 where
    pub calls : List (ℕ × Round × Ring T)
    pub ring : Ring T
    pub finds : Finds before calls ring
    pub number_is : number ≡ length (accepted_in calls)
    -- but under `DropOldest`, each subscription had a place free
    pub room : ring.policy ≢ policy.DropOldest → HaveRoom ring
    pub only : after ≡ after_call calls round.Emit (with_value value ring) before
    pub joins : accepted after ≡ accepted_in calls ++ value ∷ []

  -- one call that had the flow accept nothing, since it has this policy, and a subscription had no place free
  pub record Refuses (rule : Policy) (before after : Locking (Ring T) Round) : Type 0 where
    pub calls : List (ℕ × Round × Ring T)
    pub ring : Ring T
    pub finds : Finds before calls ring
    pub policy_is : ring.policy ≡ rule
    pub no_room : ¬ HaveRoom ring
    pub only : after ≡ after_call calls round.Look ring before
    pub same : accepted after ≡ accepted_in calls

  -- one call by which a subscription began at a free place, with the value of this number: the oldest of the replay cache, or the next one
  pub record Opens (before : Locking (Ring T) Round) (place start : ℕ) (after : Locking (Ring T) Round) : Type 0 where
    pub calls : List (ℕ × Round × Ring T)
    pub ring : Ring T
    pub finds : Finds before calls ring
    pub start_is : start ≡ cache_start ring
    pub was_free : slice_get ring.cursors place ≡ Some None
    pub only : after ≡ after_call calls (round.Begin place start) (moved place (Some start) ring) before
    pub same : accepted after ≡ accepted_in calls

  -- one call that found each place for a subscription taken
  pub record FindsFull (before after : Locking (Ring T) Round) : Type 0 where
    pub calls : List (ℕ × Round × Ring T)
    pub ring : Ring T
    pub finds : Finds before calls ring
    pub none_free : position is_none ring.cursors ≡ None
    pub only : after ≡ after_call calls round.Look ring before
    pub same : accepted after ≡ accepted_in calls

  -- another owner, which an owner made, found so, and was let go
  abbrev pub WasFull : Locking (Ring T) Round → Type 0
  WasFull owner =
      (fresh : Locking (Ring T) Round) × (after : Locking (Ring T) Round) × (fresh.log ≡ another owner.log) × (fresh.place ≡ owner.place) × FindsFull fresh after
