-- What the calls of an owner say of it, before the call and after it.
use Rattle.std.specs.Prelude.{◌≡◌, ℕ, ◌+◌, List, [], ◌∷◌, ◌++◌, Some}
use Rattle.round_lock.specs.Locking.{Locking}
use Rattle.round_lock.specs.History.{IsPrefix, KnowsTaken, own_of, called}
use Rattle.value_states.specs.declared.round.Round.{Round}
use Rattle.value_states.specs.declared.round.Round.TheVariants as round
use Rattle.value_states.specs.declared.versioned.Versioned.{Versioned}
use Rattle.value_states.specs.History.{history_after, IsLast}

module _ {T : Type 0} where
  -- the history, as far as an owner has seen it
  abbrev pub history : Locking (Versioned T) Round → List T
  history owner = history_after owner.log.made owner.log.seen

  -- what an owner finds: these calls were made before its own, by all owners; they begin with those that it had seen, have its own as
  -- its part, and left this value
  pub record Finds (owner : Locking (Versioned T) Round) (calls : List (ℕ × Round × Versioned T)) (state : Versioned T) : Type 0 where
    pub seen : IsPrefix owner.log.seen calls
    pub own : owner.log.own ≡ own_of owner.pass calls
    pub last : IsLast (history_after owner.log.made calls) state
    pub taken_in : KnowsTaken owner.pass owner.log.own owner.log.halved owner.log.taken calls

  -- an owner that has taken the lock, and has this state
  abbrev pub holding : Versioned T → List (ℕ × Round × Versioned T) → Locking (Versioned T) Round → Locking (Versioned T) Round
  holding state calls owner = record owner { log = record owner.log { held = Some state; seen = calls } }

  -- an owner took the lock, and found this state
  pub record Holds (before : Locking (Versioned T) Round) (state : Versioned T) (after : Locking (Versioned T) Round) : Type 0 where
    pub finds : Finds before after.log.seen state
    pub only : after ≡ holding state after.log.seen before

  -- an owner that has given the state back, after this call
  abbrev pub giving : Round → Versioned T → Locking (Versioned T) Round → Locking (Versioned T) Round
  giving call state owner = record owner { log = called owner.log (Some (owner.pass, call, state)) }

  -- the owner after a call, made after those, which left this state
  abbrev pub after_call : List (ℕ × Round × Versioned T) → Round → Versioned T → Locking (Versioned T) Round → Locking (Versioned T) Round
  after_call calls call state owner = record owner { log = called (record owner.log { seen = calls }) (Some (owner.pass, call, state)) }

  -- one call that read this value, the last of the history
  pub record Reads (before : Locking (Versioned T) Round) (value : T) (after : Locking (Versioned T) Round) : Type 0 where
    pub calls : List (ℕ × Round × Versioned T)
    pub version : ℕ
    pub finds : Finds before calls (record { value = value; version = version })
    pub only : after ≡ after_call calls round.Read (record { value = value; version = version }) before
    pub same_history : history after ≡ history_after before.log.made calls

  -- one call that found a value, the last of the history, and wrote the next one
  pub record Writes (before : Locking (Versioned T) Round) (found value : T) (after : Locking (Versioned T) Round) : Type 0 where
    pub calls : List (ℕ × Round × Versioned T)
    pub version : ℕ
    pub finds : Finds before calls (record { value = found; version = version })
    pub only : after ≡ after_call calls round.Write (record { value = value; version = version + 1 }) before
    pub joins : history after ≡ history_after before.log.made calls ++ value ∷ []
