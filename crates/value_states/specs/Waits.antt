-- What a wait for the next value of a state comes to.
use Rattle.std.specs.Prelude.{Option, Some, None}
use Rattle.round_lock.specs.Locking.{Locking}
use Rattle.value_states.specs.declared.round.Round.{Round}
use Rattle.value_states.specs.declared.versioned.Versioned.{Versioned}
use Rattle.value_states.specs.declared.collected.Collected.{Collected}
use Rattle.value_states.specs.declared.collected.Collected.TheVariants as collected
use Rattle.value_states.specs.Calls.{Reads}
use Rattle.value_states.specs.Watching.{AwaitsNothing, AwaitsValue, MissedOn}

module _ {T R : Type 0} (makes : T → R → Type 0) where
  -- after asks that gave nothing, if any, the last one gave a value, of which this was made; or it gave nothing either
  abbrev pub Awaits : Locking (Versioned T) Round → Collected R → Locking (Versioned T) Round → Type 0
  Awaits v (collected.Value answer) w = (value : T) × AwaitsValue v value w × makes value answer
  Awaits v collected.Stopped w = AwaitsNothing v w

  -- the same, for a time: where that is up, the last ask gave nothing
  abbrev pub AwaitsWithin : Locking (Versioned T) Round → Option (Collected R) → Locking (Versioned T) Round → Type 0
  AwaitsWithin v (Some c) w = Awaits v c w
  AwaitsWithin v None w = AwaitsNothing v w

module _ {T : Type 0} (fails : T → Type 0) where
  -- after asks that gave nothing, if any, the last one found a value of which no clone could be had: it was read, and not given
  abbrev pub FailsLate : Locking (Versioned T) Round → Locking (Versioned T) Round → Type 0
  FailsLate v w = (value : T) × (m : Locking (Versioned T) Round) × MissedOn v m × Reads m value w × fails value
