-- What a wait for the next value of a state comes to.
use Rattle.std.specs.Prelude.{List, [], ◌∷◌, Option, Some, None}
use Rattle.state_flow.specs.declared.view.View.{View}
use Rattle.state_flow.specs.Calls.{Collects}
use Rattle.state_waiting.specs.declared.collected.Collected.{Collected}
use Rattle.state_waiting.specs.declared.collected.Collected.TheVariants as collected
use Rattle.state_waiting.specs.declared.collected.Attempt.{Attempt}
use Rattle.state_waiting.specs.declared.collected.Attempt.TheVariants as attempt

module _ {T : Type 0} where
  -- by asks, one after another, the collector was given nothing
  pub data MissedOn : View T → View T → Type 0 where
    not_once : (v : View T) → MissedOn v v
    once_more : (v m w : View T) → MissedOn v m → Collects m None w → MissedOn v w

  -- after asks that gave nothing, if any, the last ask gave this
  abbrev pub AskedOn : View T → Option T → View T → Type 0
  AskedOn v given w = (m : View T) × MissedOn v m × Collects m given w

  -- what a wait comes to: the last ask gave the value, or nothing
  abbrev pub Awaits : View T → Collected T → View T → Type 0
  Awaits v (collected.Value x) w = AskedOn v (Some x) w
  Awaits v collected.Stopped w = AskedOn v None w

  -- the same, for a time: where that is up, the last ask gave nothing
  abbrev pub AwaitsWithin : View T → Option (Collected T) → View T → Type 0
  AwaitsWithin v (Some c) w = Awaits v c w
  AwaitsWithin v None w = AskedOn v None w

  -- the value that a wait came to, if it came to one, as a list
  abbrev pub value_of : Collected T → List T
  value_of (collected.Value x) = x ∷ []
  value_of collected.Stopped = []

  abbrev pub value_within : Option (Collected T) → List T
  value_within (Some c) = value_of c
  value_within None = []

  -- what one turn of a wait comes to: one ask
  abbrev pub Comes : View T → Attempt T → View T → Type 0
  Comes v (attempt.Over (collected.Value x)) w = Collects v (Some x) w
  Comes v (attempt.Over collected.Stopped) w = Collects v None w
  Comes v (attempt.Asleep n) w = Collects v None w
