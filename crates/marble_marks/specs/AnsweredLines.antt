-- The lines of a script that have an answer, each with its answer.
use Rattle.std.specs.Prelude.{ℕ, ◌+◌, ◌==◌, List, [], ◌∷◌, ◌++◌, Option, Some, None, string_bytes, if◌then◌else◌}
use Rattle.std.specs.Option.{option_map}
use Rattle.script_words.specs.Lines.{lines_of, words_of}
use Rattle.script_commands.specs.declared.answer.Answer.{Answer}
use Rattle.script_commands.specs.Answers.{text_of}
use Rattle.script_commands.specs.Commands.{Order, order_of, command_of}
use Rattle.marble_marks.specs.declared.said.Said.{Said}
use Rattle.marble_marks.specs.declared.answered.AnsweredLine.{AnsweredLine}

-- a line with its answer: the column that it is shown in, its number, its command, if it says one
pub record Asked : Type 0 where
  pub column : ℕ
  pub number : ℕ
  pub line : List ℕ
  pub order : Option Order
  pub answer : Answer
  pub text : List ℕ

abbrev pub asked_in : AnsweredLine → Asked
asked_in answered = record {
  column = answered.column;
  number = answered.number;
  line = answered.line.now;
  order = option_map order_of answered.command;
  answer = answered.answer.now;
  text = answered.text.now;
}

abbrev pub order_by : List (List ℕ) → Option Order
order_by [] = None
order_by (first ∷ words) = command_of first words

abbrev pub order_in : List ℕ → Option Order
order_in line = order_by (words_of line)

-- an answer to the line with this number, and its text
pub record Saying : Type 0 where
  pub number : ℕ
  pub answer : Answer
  pub text : List ℕ

abbrev pub saying : ℕ → Answer → Saying
saying number answer = record { number = number; answer = answer; text = text_of answer }

abbrev pub saying_in : Said → Saying
saying_in said = record { number = said.number; answer = said.answer; text = string_bytes said.text }

-- the first of these answers and the rest, where it is that of the line with this number
abbrev pub saying_at : ℕ → List Saying → Option (Saying × List Saying)
saying_at number [] = None
saying_at number (it ∷ rest) = if it.number == number then Some (it, rest) else None

abbrev pub asked_at : ℕ → ℕ → List ℕ → Saying → Asked
asked_at column number line it = record {
  column = column + 1;
  number = number;
  line = line;
  order = order_in line;
  answer = it.answer;
  text = it.text;
}

abbrev pub asked_here : ℕ → ℕ → List ℕ → Option (Saying × List Saying) → List Asked
asked_here column number line None = []
asked_here column number line (Some said) = asked_at column number line said.0 ∷ []

abbrev pub column_after : ℕ → Option (Saying × List Saying) → ℕ
column_after column None = column
column_after column (Some said) = column + 1

abbrev pub left_after : List Saying → Option (Saying × List Saying) → List Saying
left_after answers None = answers
left_after answers (Some said) = said.1

-- after so many columns and so many lines
abbrev pub asked_from : ℕ → ℕ → List (List ℕ) → List Saying → List Asked
asked_from column number [] answers = []
asked_from column number (line ∷ lines) answers =
    let said = saying_at (number + 1) answers in
    asked_here column (number + 1) line said ++ asked_from (column_after column said) (number + 1) lines (left_after answers said)

-- THE LINES THAT HAVE AN ANSWER, with these answers, in their order
abbrev pub asked_of : List ℕ → List Saying → List Asked
asked_of script answers = asked_from 0 0 (lines_of script) answers
