-- WHAT A SCRIPT ANSWERS: a function of its bytes, and of what its lines found. Read this first.
use Rattle.std.specs.Prelude.{ℕ, ◌+◌, Bool, true, false, List, [], ◌∷◌, ◌++◌, length, Option, Some, None, nat_lt, unwrap_or}
use Rattle.script_commands.specs.declared.answer.Answer.TheVariants.{BadCommand}
use Rattle.script_commands.specs.declared.reason.Reason.{Reason}
use Rattle.script_commands.specs.declared.reason.Reason.TheVariants.{TooLong}
use Rattle.script_commands.specs.Commands.{Order, command_of}
use Rattle.script_commands.specs.Reasons.{against_words}
use Rattle.script_words.specs.Lines.{lines_of, words_of, starts_with_hash}
use Rattle.script_run.specs.declared.line_answer.LineAnswer.{LineAnswer}
use Rattle.script_run.specs.Executing.{reason_of}
use Rattle.script_run.specs.Replying.{answer_at}
use Rattle.script_model.specs.Findings.{Finding, Findings, found_at}
use Rattle.script_model.specs.Worlds.{World, Outcome, empty_world, binding_of, step}

-- a line is bad for this reason, and nothing changes
abbrev pub bad : ℕ → Reason → World → Outcome
bad number reason world = (Some (BadCommand number reason), world)

-- a command without an answer is bad for this reason
abbrev pub or_bad : ℕ → Reason → Outcome → Outcome
or_bad number reason came = (Some (unwrap_or came.0 (BadCommand number reason)), came.1)

-- a line of which no command comes is bad, for this reason
abbrev pub obey : Finding → ℕ → Reason → Option Order → World → Outcome
obey finding number unread None world = bad number unread world
obey finding number unread (Some order) world = or_bad number (reason_of order (binding_of world.names)) (step finding order world)

-- a line of more than 1,024 bytes is bad
abbrev pub obey_short : Finding → ℕ → Bool → Reason → Option Order → World → Outcome
obey_short finding number true unread order world = bad number TooLong world
obey_short finding number false unread order world = obey finding number unread order world

-- a comment has no answer
abbrev pub reply_unless : Finding → ℕ → Bool → Bool → Reason → Option Order → World → Outcome
reply_unless finding number true is_long unread order world = (None, world)
reply_unless finding number false is_long unread order world = obey_short finding number is_long unread order world

-- a line of these words, which is so long; one without words has no answer
abbrev pub reply_to : Finding → ℕ → ℕ → List (List ℕ) → World → Outcome
reply_to finding number size [] world = (None, world)
reply_to finding number size (first ∷ words) world =
    reply_unless finding number (starts_with_hash first) (nat_lt 1024 size) (against_words first) (command_of first words) world

-- the line with this number
unfoldable pub reply_of : Finding → ℕ → List ℕ → World → Outcome
reply_of finding number line world = reply_to finding number (length line) (words_of line) world

-- the answers of lines from this number on, one after another
abbrev pub answers_from : Findings → ℕ → List (List ℕ) → World → List LineAnswer
answers_from findings number [] world = []
answers_from findings number (line ∷ lines) world =
    let came = reply_of (found_at number findings) number line world in
    answer_at number came.0 ++ answers_from findings (number + 1) lines came.1

abbrev pub answers_of_lines : Findings → List (List ℕ) → List LineAnswer
answers_of_lines findings lines = answers_from findings 1 lines empty_world

-- THE ANSWERS OF A SCRIPT, each with the number of its line, where its lines found this
abbrev pub answers_of_script : Findings → List ℕ → List LineAnswer
answers_of_script findings script = answers_of_lines findings (lines_of script)
