-- What a watcher of a state was given, and what its asks come to.
use Rattle.std.specs.Prelude.{◌≡◌, ℕ, ◌<◌, ◌≤◌, Option, Some, None, List, [], ◌∷◌, ◌++◌, length}
use Rattle.std.specs.List.{All, AllPairs}
use Rattle.round_lock.specs.Locking.{Locking}
use Rattle.value_states.specs.declared.round.Round.{Round}
use Rattle.value_states.specs.declared.round.Round.TheVariants as round
use Rattle.value_states.specs.declared.versioned.Versioned.{Versioned}
use Rattle.value_states.specs.declared.collected.Awaited.{Awaited}
use Rattle.value_states.specs.declared.collected.Awaited.TheVariants as awaited
use Rattle.value_states.specs.declared.collected.Attempt.{Attempt}
use Rattle.value_states.specs.declared.collected.Attempt.TheVariants as attempt
use Rattle.value_states.specs.History.{history_after}
use Rattle.value_states.specs.Calls.{history, Finds, Holds, after_call}

-- the version that a call gave, or none
abbrev pub version_by : Round → List ℕ
version_by round.Read = []
version_by round.Write = []
version_by (round.Give version) = version ∷ []

-- the versions that these calls gave, in order
abbrev pub given_in : List Round → List ℕ
given_in [] = []
given_in (r ∷ calls) = version_by r ++ given_in calls

-- the version is the last one that was given
abbrev pub IsLatest : List ℕ → ℕ → Type 0
IsLatest versions version = (earlier : List ℕ) × (versions ≡ earlier ++ version ∷ [])

-- a version above the one that was given last, if any
abbrev pub IsNewer : Option ℕ → ℕ → Type 0
IsNewer None version = Unit {0}
IsNewer (Some latest) version = latest < version

-- the version that was given last, if any, is no lower than another, and one of so many
abbrev pub LatestIs : Option ℕ → List ℕ → ℕ → Type 0
LatestIs None versions count = versions ≡ []
LatestIs (Some latest) versions count = IsLatest versions latest × All (λ version. version ≤ latest) versions × (latest < count)

module _ {T : Type 0} where
  -- each version is below all later ones, and is a place in the history: the values there are a subsequence of it
  pub record IsPicked (versions : List ℕ) (history : List T) : Type 0 where
    pub rising : AllPairs (λ earlier later. earlier < later) versions
    pub within : All (λ version. version < length history) versions

  -- one call that gave the value, the last of the history, to a watcher which was given none of its version or above
  pub record Gives (before : Locking (Versioned T) Round) (value : T) (after : Locking (Versioned T) Round) : Type 0 where
    pub calls : List (ℕ × Round × Versioned T)
    pub version : ℕ
    pub finds : Finds before calls (record { value = value; version = version })
    pub newer : All (λ given. given < version) (given_in before.log.own)
    pub only : after ≡ after_call calls (round.Give version) (record { value = value; version = version }) before
    pub same_history : history after ≡ history_after before.log.made calls
    pub picked : IsPicked (given_in after.log.own) (history after)

  -- one call that gave nothing, since the last value of the history was the last one that the watcher was given
  pub record Misses (before after : Locking (Versioned T) Round) : Type 0 where
    pub calls : List (ℕ × Round × Versioned T)
    pub state : Versioned T
    pub finds : Finds before calls state
    pub latest : IsLatest (given_in before.log.own) state.version
    pub only : after ≡ after_call calls round.Read state before
    pub same_history : history after ≡ history_after before.log.made calls

  -- by asks, one after another, the watcher was given nothing
  pub data MissedOn : Locking (Versioned T) Round → Locking (Versioned T) Round → Type 0 where
    not_once : (v : Locking (Versioned T) Round) → MissedOn v v
    once_more : (v m w : Locking (Versioned T) Round) → MissedOn v m → Misses m w → MissedOn v w

  -- after asks that gave nothing, if any, the last one gave this value
  abbrev pub AwaitsValue : Locking (Versioned T) Round → T → Locking (Versioned T) Round → Type 0
  AwaitsValue v value w = (m : Locking (Versioned T) Round) × MissedOn v m × Gives m value w

  -- the last one gave nothing either
  abbrev pub AwaitsNothing : Locking (Versioned T) Round → Locking (Versioned T) Round → Type 0
  AwaitsNothing v w = (m : Locking (Versioned T) Round) × MissedOn v m × Misses m w

  -- the lock is taken for a value that the watcher wasn't given
  pub record Takes (before : Locking (Versioned T) Round) (state : Versioned T) (after : Locking (Versioned T) Round) : Type 0 where
    pub holds : Holds before state after
    pub newer : All (λ given. given < state.version) (given_in before.log.own)

  -- What a wait comes to: after asks that gave nothing, if any, the lock is taken for a value, or the last ask gave nothing either
  abbrev pub ComesTo : Locking (Versioned T) Round → Awaited T → Locking (Versioned T) Round → Type 0
  ComesTo v (awaited.News guarded) w = (m : Locking (Versioned T) Round) × MissedOn v m × Takes m guarded.state w
  ComesTo v awaited.Stopped w = AwaitsNothing v w

  -- what one turn of a wait comes to: one ask
  abbrev pub Comes : Locking (Versioned T) Round → Attempt T → Locking (Versioned T) Round → Type 0
  Comes v (attempt.Over (awaited.News guarded)) w = Takes v guarded.state w
  Comes v (attempt.Over awaited.Stopped) w = Misses v w
  Comes v (attempt.Asleep n) w = Misses v w

  -- what a watcher keeps of what it was given
  pub record Keeps (owner : Locking (Versioned T) Round) (latest : Option ℕ) : Type 0 where
    pub picked : IsPicked (given_in owner.log.own) (history owner)
    pub latest_is : LatestIs latest (given_in owner.log.own) (length (history owner))
