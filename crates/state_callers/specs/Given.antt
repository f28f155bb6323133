-- What a wait gave.
use Rattle.std.specs.Prelude.{Option, Some, None}
use Rattle.state_waiting.specs.declared.collected.Collected.{Collected}
use Rattle.state_waiting.specs.declared.collected.Collected.TheVariants as collected

-- a value, or nothing where the watcher was let go
abbrev pub given : {T : Type 0} → Collected T → Option T
given (collected.Value x) = Some x
given collected.Stopped = None
