-- What a line is answered with, and what lines are, one after another.
use Rattle.std.specs.Prelude.{◌≡◌, ℕ, ◌+◌, List, [], ◌∷◌, ◌++◌, length, Option, Some, None, Result, Bool, true, false, nat_lt, unwrap_or}
use Rattle.flow_terms.specs.declared.refusal.Refusal.{Refusal}
use Rattle.script_commands.specs.declared.answer.Answer.{Answer}
use Rattle.script_commands.specs.declared.answer.Answer.TheVariants.{BadCommand}
use Rattle.script_commands.specs.declared.part.Part.{Part}
use Rattle.script_commands.specs.declared.reason.Reason.{Reason}
use Rattle.script_commands.specs.declared.reason.Reason.TheVariants.{TooLong}
use Rattle.script_commands.specs.declared.request.Request.{Request}
use Rattle.script_commands.specs.Commands.{Order, Made, Joining, command_of}
use Rattle.script_commands.specs.Reasons.{against_words}
use Rattle.script_words.specs.Lines.{lines_of, words_of, starts_with_hash}
use Rattle.script_run.specs.declared.line_answer.LineAnswer.{LineAnswer}
use Rattle.script_run.specs.declared.run.ScriptRun.{ScriptRun}
use Rattle.script_run.specs.Standings.{Standing, Stays, standing}
use Rattle.script_run.specs.Executing.{Joined, NoAnswer, Executes, reason_of}

-- the answer of the line with this number, if it has one
abbrev pub answer_at : ℕ → Option Answer → List LineAnswer
answer_at number None = []
answer_at number (Some answer) = record { line = number; answer = answer } ∷ []

-- how far a script was run
pub record RunState (O : Type 0) : Type 0 where
  -- how many lines there were so far
  pub number : ℕ
  -- the bytes that are left
  pub rest : List ℕ
  pub stands : Standing O

abbrev pub run_state : {O M : Type 0} → ScriptRun O M → RunState O
run_state run = record { number = run.number; rest = run.lines.rest.now; stands = standing run.runner }

-- before the first line
abbrev pub first_state : {O : Type 0} → List ℕ → Standing O → RunState O
first_state script start = record { number = 0; rest = script; stands = start }

module _ {O : Type 0} (makes : Made → Result O Refusal → Type 0)
    (asks : Part → Request → O → Option Answer → O → Type 0)
    (joins : Part → Joining → O → Option Joined → O → Type 0) where
  -- the line is bad for this reason, and nothing changed
  abbrev pub IsBad : ℕ → Reason → Standing O → Option Answer → Standing O → Type 0
  IsBad number reason old answer new = (answer ≡ Some (BadCommand number reason)) × Stays old new

  -- the command was executed; without an answer the line is bad
  abbrev pub ObeysOrder : ℕ → Order → Standing O → Option Answer → Standing O → Type 0
  ObeysOrder number order old answer new = (came : Option Answer) × Executes makes asks joins order old came new
      × (answer ≡ Some (unwrap_or came (BadCommand number (reason_of order old.bound))))

  -- a line of which no command comes is bad, for this reason
  abbrev pub Obeys : ℕ → Reason → Option Order → Standing O → Option Answer → Standing O → Type 0
  Obeys number unread None old answer new = IsBad number unread old answer new
  Obeys number unread (Some order) old answer new = ObeysOrder number order old answer new

  -- a line of 1,024 bytes or less is read
  abbrev pub ObeysShort : ℕ → Bool → Reason → Option Order → Standing O → Option Answer → Standing O → Type 0
  ObeysShort number true unread order old answer new = IsBad number TooLong old answer new
  ObeysShort number false unread order old answer new = Obeys number unread order old answer new

  -- a comment has no answer
  abbrev pub RepliesUnless : ℕ → Bool → Bool → Reason → Option Order → Standing O → Option Answer → Standing O → Type 0
  RepliesUnless number true is_long unread order old answer new = NoAnswer old answer new
  RepliesUnless number false is_long unread order old answer new = ObeysShort number is_long unread order old answer new

  -- a line of these words, which is so long
  abbrev pub RepliesTo : ℕ → ℕ → List (List ℕ) → Standing O → Option Answer → Standing O → Type 0
  RepliesTo number size [] old answer new = NoAnswer old answer new
  RepliesTo number size (first ∷ words) old answer new =
      RepliesUnless number (starts_with_hash first) (nat_lt 1024 size) (against_words first) (command_of first words) old answer new

  -- WHAT THE LINE WITH THIS NUMBER DOES AND ANSWERS
  unfoldable pub Replies : ℕ → List ℕ → Standing O → Option Answer → Standing O → Type 0
  Replies number line old answer new = RepliesTo number (length line) (words_of line) old answer new

  -- WHAT LINES DO AND ANSWER, from this number on, one after another
  abbrev pub Answers : ℕ → List (List ℕ) → Standing O → List LineAnswer → Standing O → Type 0
  Answers number [] old all new = (all ≡ []) × (new ≡ old)
  Answers number (line ∷ lines) old all new = (answer : Option Answer) × (between : Standing O) × (rest : List LineAnswer)
      × Replies number line old answer between × (all ≡ answer_at number answer ++ rest) × Answers (number + 1) lines between rest new

  -- from one place in a script to a later one these answers came
  pub record Comes (old : RunState O) (all : List LineAnswer) (new : RunState O) : Type 0 where
    pub passed : List (List ℕ)
    pub lines : lines_of old.rest ≡ passed ++ lines_of new.rest
    pub counted : new.number ≡ old.number + length passed
    pub answered : Answers (old.number + 1) passed old.stands all new.stands

  -- up to the next answer, or to the end of the script
  abbrev pub GoesOn : RunState O → Option LineAnswer → RunState O → Type 0
  GoesOn old None new = Comes old [] new × (lines_of new.rest ≡ [])
  GoesOn old (Some answered) new = Comes old (answered ∷ []) new
