-- The preludes of a script's subscriptions.
use Rattle.std.specs.Prelude.{ℕ, List, length, nat_le, Option, Some, None, if◌then◌else◌}
use Rattle.flow_terms.specs.declared.refusal.Refusal.{Refusal}
use Rattle.flow_terms.specs.declared.refusal.Refusal.TheVariants.{PreludeTooLong}

-- why nobody subscribes with these numbers
abbrev pub prelude_refusal : List ℕ → Option Refusal
prelude_refusal numbers = if nat_le (length numbers) 16 then None else Some PreludeTooLong
