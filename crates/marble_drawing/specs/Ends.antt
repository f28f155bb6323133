-- How a call on a script ends.
use Rattle.std.specs.Prelude.{ℕ, ◌<◌, ◌≤◌, List, length, Result, Ok, Err}
use Rattle.script_run.specs.declared.fault.ScriptFault.{ScriptFault}
use Rattle.script_run.specs.declared.fault.ScriptFault.TheVariants.{Read, TooLong, Write, NoMemory}

-- what a fault says of the script
abbrev pub Faulted : List ℕ → ScriptFault → Type 0
Faulted script TooLong = 1048576 < length script
Faulted script Read = Unit {0}
Faulted script Write = Unit {0}
Faulted script NoMemory = Unit {0}

-- A RESULT, of which this holds, comes only of a script that fits, and `TooLong` only of a longer one.
abbrev pub Ends : {T : Type 0} → List ℕ → (T → Type 0) → Result T ScriptFault → Type 0
Ends script holds (Ok value) = (length script ≤ 1048576) × holds value
Ends script holds (Err fault) = Faulted script fault
