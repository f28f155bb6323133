-- What a run of a list's items gives.
use Rattle.std.proofs.Common.{◌≡◌, ℕ, List, [], ◌∷◌, Option, Some, None, refl, ap}
use Rattle.cold_flow.specs.Scripted.{played}
use Rattle.cold_flow.specs.Trace.{ended_by, cause_of, led_by}
use Rattle.script_commands.specs.declared.items.Item.{Item}
use Rattle.script_commands.specs.declared.items.Item.TheVariants.{Number, Pending}
use Rattle.script_commands.specs.Items.{steps_of, values_of}

pub played_steps : (items : List Item) (fault : Option ℕ) → played (steps_of items fault) ≡ ended_by (values_of items) (cause_of fault)
played_steps [] None = refl
played_steps [] (Some fault) = refl
played_steps (Number number ∷ items) fault = ap (led_by number) (played_steps items fault)
played_steps (Pending ∷ items) fault = played_steps items fault
