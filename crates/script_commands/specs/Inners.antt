-- The inner flow of a value, as it is held.
use Rattle.std.specs.Prelude.{ℕ, Option, Some, None}
use Rattle.flow_terms.specs.declared.few.Few.TheVariants.{One, Two}
use Rattle.script_commands.specs.declared.inner.Inner.{Inner}
use Rattle.script_commands.specs.Piping.{plus}

abbrev pub inner_flow : Option ℕ → ℕ → Inner
inner_flow None value = record { values = Two value (plus 1 value); fault = None }
inner_flow (Some fault) value = record { values = One value; fault = Some fault }
