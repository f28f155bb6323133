use Rattle.std.proofs.Common.{◌≡◌, Global, String}
use Rattle.std.specs.String.{string_bytes}
use Rattle.state_callers.specs.Logs.{IsLogOf}
use Rattle.state_callers.proofs.flow_calling.log_texts.Given as goal

abbrev is_clone : String Global → String Global → Type 0
is_clone s t = string_bytes t ≡ string_bytes s

abbrev pub invariant-loop : goal.invariant-loop
invariant-loop g l = IsLogOf is_clone l.initial.texts l.initial.log.items → IsLogOf is_clone l.texts l.log.items
