-- What a line found that neither the script nor the model tells.
use Rattle.std.specs.Prelude.{ℕ, Bool, true, false, ◌==◌, List, [], ◌∷◌, Option, None, if◌then◌else◌}
use Rattle.script_commands.specs.declared.answer.Answer.{Answer}
use Rattle.script_run.specs.Replied.{Joined}

pub data Finding : Type 0 where
  -- nothing
  plain : Finding
  -- memory was refused to what it makes, to its pipe, or to its collector of a state
  refused : Finding
  -- the source of its buffer was pending
  waited : Finding
  -- what shares a source answered this to a command
  said : Option Answer → Finding
  -- what shares a source answered this to a party, and the party's name is this
  took : Option Joined → Finding

abbrev pub was_refused : Finding → Bool
was_refused refused = true
was_refused finding = false

abbrev pub has_waited : Finding → Bool
has_waited waited = true
has_waited finding = false

abbrev pub said_in : Finding → Option Answer
said_in (said answer) = answer
said_in finding = None

abbrev pub took_in : Finding → Option Joined
took_in (took joined) = joined
took_in finding = None

-- what the lines of a script found, by their numbers
abbrev pub Findings : Type 0
Findings = List (ℕ × Finding)

abbrev pub found_at : ℕ → Findings → Finding
found_at number [] = plain
found_at number (entry ∷ entries) = if number == entry.0 then entry.1 else found_at number entries
