-- Read this first: by all the polls of a sharing so far, whether it is on, whether what it shares is reset, and what its
-- strategy commands.
use Rattle.std.specs.Prelude.{ℕ, ◌+◌, ◌-◌, Bool, true, false, not, ◌&&◌, ◌||◌, ◌==◌, nat_lt, nat_le, max, if◌then◌else◌, List, [], ◌∷◌, Option, None, Some, slice_get}
use Rattle.std.specs.List.{list_any}
use Rattle.flow_terms.specs.declared.started.Started.{Started}
use Rattle.flow_terms.specs.declared.started.Started.TheVariants.{Eagerly, Lazily, WhileSubscribed, Custom}
use Rattle.flow_terms.specs.declared.command.Command.{Command}
use Rattle.flow_terms.specs.declared.command.Command.TheVariants.{Start, Stop, StopAndReset}
use Rattle.flow_terms.specs.declared.plan.Entry.{Entry}
use Rattle.flow_terms.specs.Plans.{entries_of}

-- what a poll was handed and what it found: a moment in milliseconds, and how many subscriptions were live
pub record Look : Type 0 where
  pub moment : ℕ
  pub count : ℕ

-- A history is what every poll so far found, the latest first.
abbrev pub History : Type 0
History = List Look

-- ---- moments and counts

-- the moment of the latest poll: the greatest that was handed in so far
abbrev pub latest : History → ℕ
latest [] = 0
latest (look ∷ earlier) = max (latest earlier) look.moment

abbrev pub is_quiet : Look → Bool
is_quiet look = look.count == 0

-- the count of the latest poll
abbrev pub latest_count : History → ℕ
latest_count [] = 0
latest_count (look ∷ earlier) = look.count

-- some poll had a count over 0
abbrev pub was_visited : History → Bool
was_visited history = list_any (λ look. not (is_quiet look)) history

-- the latest poll had a count over 0
abbrev pub is_visited : History → Bool
is_visited [] = false
is_visited (look ∷ earlier) = not (is_quiet look)

-- ---- the present stretch of polls with count 0

-- the history as it stood at each poll of the present stretch, the latest first
abbrev pub stretch : History → List History
stretch [] = []
stretch (look ∷ earlier) = if is_quiet look then (look ∷ earlier) ∷ stretch earlier else []

-- the last of them: the history as it stood at the poll that began the stretch
abbrev pub first_of : List History → History
first_of [] = []
first_of (history ∷ []) = history
first_of (history ∷ (before ∷ rest)) = first_of (before ∷ rest)

-- the moment of the poll that began the present stretch
abbrev pub beginning : History → ℕ
beginning history = latest (first_of (stretch history))

-- how long the present stretch has lasted
abbrev pub lasted : History → ℕ
lasted history = latest history - beginning history

-- ---- a plan

-- the entries of a strategy's plan, of which the other strategies have none
abbrev pub entries_in : Started → List Entry
entries_in Eagerly = []
entries_in Lazily = []
entries_in (WhileSubscribed stop expire) = []
entries_in (Custom plan) = entries_of plan

-- a poll at this moment, with this count, takes this entry
abbrev pub takes : Entry → ℕ → ℕ → Bool
takes entry now count = nat_le entry.at now && (nat_le entry.low count && nat_le count entry.high)

-- how many entries were taken after a poll, the next one being this or none
abbrev pub taken_after : Option Entry → ℕ → ℕ → ℕ → ℕ
taken_after None now count before = before
taken_after (Some entry) now count before = if takes entry now count then before + 1 else before

-- what the last entry taken commands after a poll, the next one being this or none
abbrev pub last_after : Option Entry → ℕ → ℕ → Option Command → Option Command
last_after None now count before = before
last_after (Some entry) now count before = if takes entry now count then Some entry.command else before

-- how many entries of a plan were taken: at each poll the next one, where the poll takes it
abbrev pub taken : List Entry → History → ℕ
taken entries [] = 0
taken entries (look ∷ earlier) =
    taken_after (slice_get entries (taken entries earlier)) (latest (look ∷ earlier)) look.count (taken entries earlier)

-- what the last of them commands
abbrev pub last_taken : List Entry → History → Option Command
last_taken entries [] = None
last_taken entries (look ∷ earlier) =
    last_after (slice_get entries (taken entries earlier)) (latest (look ∷ earlier)) look.count (last_taken entries earlier)

-- a command by which sharing is on
abbrev pub starts : Option Command → Bool
starts None = false
starts (Some Start) = true
starts (Some Stop) = false
starts (Some StopAndReset) = false

-- the command by which what is shared is reset
abbrev pub resets : Option Command → Bool
resets None = false
resets (Some Start) = false
resets (Some Stop) = false
resets (Some StopAndReset) = true

-- ---- on and off

abbrev pub is_on : Started → History → Bool
is_on started [] = false
is_on Eagerly (look ∷ earlier) = true
is_on Lazily (look ∷ earlier) = was_visited (look ∷ earlier)
is_on (WhileSubscribed stop expire) (look ∷ earlier) =
    is_visited (look ∷ earlier) || (was_visited earlier && nat_lt (lasted (look ∷ earlier)) stop)
is_on (Custom plan) (look ∷ earlier) = starts (last_taken (entries_of plan) (look ∷ earlier))

-- ---- resets

-- what is shared is reset after a stretch that has lasted so long
abbrev pub expires : Started → ℕ → Bool
expires Eagerly span = false
expires Lazily span = false
expires (WhileSubscribed stop None) span = false
expires (WhileSubscribed stop (Some expire)) span = nat_le stop span && nat_le expire (span - stop)
expires (Custom plan) span = false

-- a poll with count 0, after one with a count over 0, in a stretch that has lasted so long
abbrev pub is_due : Started → History → Bool
is_due started [] = false
is_due started (look ∷ earlier) = is_quiet look && was_visited earlier && expires started (lasted (look ∷ earlier))

-- a reset falls once in a stretch: at the first poll of it where it is due
abbrev pub is_first_due : Started → History → Bool
is_first_due started [] = false
is_first_due started (look ∷ earlier) = is_due started (look ∷ earlier) && not (list_any (is_due started) (stretch earlier))

-- and where a plan commands it, and the command before wasn't the same
abbrev pub is_cleared : List Entry → History → Bool
is_cleared entries [] = false
is_cleared entries (look ∷ earlier) = resets (last_taken entries (look ∷ earlier)) && not (resets (last_taken entries earlier))

abbrev pub is_reset : Started → History → Bool
is_reset started history = is_first_due started history || is_cleared (entries_in started) history

-- ---- commands

abbrev pub command_by : Bool → Bool → Bool → Option Command
command_by was_on on reset =
    if on && not was_on then Some Start
    else if reset then Some StopAndReset
    else if was_on && not on then Some Stop
    else None

-- what the latest poll commands: Start where it turns on, StopAndReset where a reset falls, else Stop where it turns off
abbrev pub command : Started → History → Option Command
command started [] = None
command started (look ∷ earlier) =
    command_by (is_on started earlier) (is_on started (look ∷ earlier)) (is_reset started (look ∷ earlier))

-- what each of these polls commands, the first one first, after the earlier ones
abbrev pub commands_after : Started → History → List Look → List (Option Command)
commands_after started earlier [] = []
commands_after started earlier (look ∷ later) =
    command started (look ∷ earlier) ∷ commands_after started (look ∷ earlier) later

abbrev pub commands : Started → List Look → List (Option Command)
commands started looks = commands_after started [] looks

-- a moment and a count as a program hands them in
abbrev pub look_of : ℕ × ℕ → Look
look_of poll = record { moment = poll.0; count = poll.1 }
