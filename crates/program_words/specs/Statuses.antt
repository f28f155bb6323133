-- The exit status of a program, by how it ended.
use Rattle.std.specs.Prelude.{ℕ, Result, Ok, Err}
use Rattle.program_words.specs.declared.fault.WordsFault.{WordsFault}
use Rattle.program_words.specs.declared.fault.WordsFault.TheVariants as words
use Rattle.program_words.specs.declared.stop.Stop.{Stop}
use Rattle.program_words.specs.declared.stop.Stop.TheVariants.{Usage, Fault}

abbrev pub stop_status : {F : Type 0} → Stop F → ℕ
stop_status (Fault fault) = 1
stop_status Usage = 2

abbrev pub status_by : {F : Type 0} → Result (Unit {0}) (Stop F) → ℕ
status_by (Ok _) = 0
status_by (Err stop) = stop_status stop

-- where the words ask for nothing
abbrev pub words_status : WordsFault → ℕ
words_status words.NoMemory = 1
words_status words.Usage = 2
