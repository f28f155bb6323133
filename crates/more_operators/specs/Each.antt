-- What `on_each` does.
use Rattle.std.specs.Prelude.{◌≡◌}
use Rattle.futures.specs.declared.task.Poll.{Poll}
use Rattle.futures.specs.declared.task.Poll.TheVariants.{Ready, Pending}
use Rattle.cold_flow.specs.declared.event.Event.{Event}
use Rattle.cold_flow.specs.declared.event.Event.TheVariants.{Value, End}

-- a poll that gave a value acted at it, and any other left the action as it was
abbrev pub Acted : {T E G : Type 0} → (G → T → G → Type 0) → G → Poll (Event T E) → G → Type 0
Acted acts old (Ready (Value x)) new = acts old x new
Acted acts old (Ready (End k)) new = new ≡ old
Acted acts old Pending new = new ≡ old
