-- A plan as one word: entries with commas between, each of four fields with colons between.
use Rattle.std.specs.Prelude.{ℕ, ◌+◌, ◌^◌, Bool, List, Option, Some, None, codes, bytes_eq, is_some, position, take, drop, nat_lt, ◌==◌, if◌then◌else◌}
use Rattle.std.specs.Option.{option_map}
use Rattle.std.specs.List.{slice_split, list_all, filter_map}
use Rattle.flow_terms.specs.declared.command.Command.{Command}
use Rattle.flow_terms.specs.declared.command.Command.TheVariants.{Start, Stop, StopAndReset}
use Rattle.flow_terms.specs.declared.plan.Entry.{Entry}
use Rattle.script_words.specs.declared.start.Entries.{Entries}
use Rattle.script_words.specs.Fields.{number_of}
use Rattle.script_words.specs.Words.{◌>>=◌}

abbrev pub is_colon : ℕ → Bool
is_colon byte = byte == 58

-- what stands before the first colon, and after it
abbrev pub cut : List ℕ → Option (List ℕ × List ℕ)
cut word = option_map (λ at. (take at word, drop (at + 1) word)) (position is_colon word)

unfoldable pub number_field : List ℕ → Option (ℕ × List ℕ)
number_field word = do
  parts ← cut word
  number ← number_of parts.0
  Some (number, parts.1)

unfoldable pub count_field : List ℕ → Option (ℕ × List ℕ)
count_field word = do
  field ← number_field word
  if nat_lt field.0 (2 ^ 32) then Some field else None

abbrev pub command_of : List ℕ → Option Command
command_of word =
    if bytes_eq word (codes "start") then Some Start
    else (if bytes_eq word (codes "stop") then Some Stop
    else (if bytes_eq word (codes "clear") then Some StopAndReset
    else None))

-- AT:LOW:HIGH:WORD
unfoldable pub entry_of : List ℕ → Option Entry
entry_of word = do
  at ← number_field word
  low ← count_field at.1
  high ← count_field low.1
  command ← command_of high.1
  Some (record { at = at.0; low = low.0; high = high.0; command = command })

abbrev pub is_entry : List ℕ → Bool
is_entry word = is_some (entry_of word)

abbrev pub is_comma : ℕ → Bool
is_comma byte = byte == 44

-- whether each part between commas is an entry
abbrev pub are_entries : List ℕ → Bool
are_entries word = list_all is_entry (slice_split is_comma word)

-- the parts that are entries
abbrev pub entries_in : List ℕ → List Entry
entries_in word = filter_map entry_of (slice_split is_comma word)

-- the entries that were written
abbrev pub entries_written : Entries → List Entry
entries_written entries = entries_in entries.word.now

-- the entries of a word that says a list of them
abbrev pub entries_at : List ℕ → Option (List Entry)
entries_at word = if are_entries word then Some (entries_in word) else None
