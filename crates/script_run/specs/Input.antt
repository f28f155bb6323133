-- What a reader gave.
use Rattle.std.specs.Prelude.{◌≡◌, ℕ, ◌<◌, ◌≤◌, List, ◌++◌, length, Option, Result, Ok, Err, Vec}
use Rattle.std.specs.Io.KnownBytes.{Consumes, IsAtEnd}
use Rattle.script_run.specs.declared.fault.ScriptFault.{ScriptFault}
use Rattle.script_run.specs.declared.fault.ScriptFault.TheVariants.{Read, TooLong, Write, NoMemory}

-- one read put what it gave at the end of the script, and gave nothing only at the end of the input
pub record Reading (old new : Option (List ℕ)) (before after : List ℕ) (count : ℕ) : Type 0 where
  pub bytes : List ℕ
  pub came : Consumes old new bytes
  pub kept : after ≡ before ++ bytes
  pub counted : length bytes ≡ count
  pub within : length after ≤ 1048577
  pub at_end : count ≡ 0 → IsAtEnd new

-- a reader gave no more bytes than these
abbrev pub TakesAtMost : Option (List ℕ) → Option (List ℕ) → ℕ → Type 0
TakesAtMost old new most = (bytes : List ℕ) × Consumes old new bytes × (length bytes ≤ most)

module _ {Y : Type 0} where
  -- A script that was read is all of the input, and no longer than the limit; TooLong comes only past the limit.
  abbrev pub ReadWhole : Option (List ℕ) → Option (List ℕ) → Result (Vec ℕ Y) ScriptFault → Type 0
  ReadWhole old new (Ok script) = Consumes old new script.items × IsAtEnd new × (length script.items ≤ 1048576)
  ReadWhole old new (Err TooLong) = (bytes : List ℕ) × Consumes old new bytes × (1048576 < length bytes)
  ReadWhole old new (Err Read) = Unit {0}
  ReadWhole old new (Err NoMemory) = Unit {0}
  ReadWhole old new (Err Write) = ⊥
