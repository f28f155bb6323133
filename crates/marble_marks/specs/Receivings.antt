-- What was received, by the script's commands and their answers, and by the marks.
use Rattle.std.specs.Prelude.{ℕ, List, Option, Some, None}
use Rattle.std.specs.Option.{option_map}
use Rattle.std.specs.List.{filter_map}
use Rattle.script_commands.specs.declared.request.Request.{Request}
use Rattle.script_commands.specs.declared.request.Request.TheVariants as requested
use Rattle.script_commands.specs.Commands.{Order}
use Rattle.script_commands.specs.Commands as commands
use Rattle.marble_marks.specs.declared.mark.Kind.{Kind}
use Rattle.marble_marks.specs.declared.mark.Kind.TheVariants as kinds
use Rattle.marble_marks.specs.declared.reply.Reply.{Reply}
use Rattle.marble_marks.specs.declared.reply.Reply.TheVariants as replies
use Rattle.marble_marks.specs.Replies.{reply_of}
use Rattle.marble_marks.specs.AnsweredLines.{Asked}
use Rattle.marble_marks.specs.Marks.{Seen, names_in, row_of}

-- a value that was received: in which column, on whose row, by which answer
pub record Receipt : Type 0 where
  pub column : ℕ
  pub row : ℕ
  pub value : ℕ
  pub answer : List ℕ

abbrev pub receipt : ℕ → ℕ → ℕ → List ℕ → Receipt
receipt column row value answer = record { column = column; row = row; value = value; answer = answer }

-- ---- by the script: each `next` that was answered by a value

abbrev pub value_said : Reply → Option ℕ
value_said (replies.Value value) = Some value
value_said _ = None

abbrev pub value_asked : Request → Reply → Option ℕ
value_asked requested.Next reply = value_said reply
value_asked _ reply = None

abbrev pub receipt_by : List (List ℕ) → ℕ → List ℕ → Option Order → Reply → Option Receipt
receipt_by names column answer (Some (commands.ask name request)) reply =
    option_map (λ value. receipt column (row_of names name) value answer) (value_asked request reply)
receipt_by names column answer _ reply = None

abbrev pub receipt_at : List (List ℕ) → Asked → Option Receipt
receipt_at names asked = receipt_by names asked.column asked.text asked.order (reply_of asked.answer)

-- WHAT WAS RECEIVED in these lines
abbrev pub receipts_of : List Asked → List Receipt
receipts_of asked = filter_map (receipt_at (names_in asked)) asked

-- ---- by the marks

abbrev pub receipt_shown : ℕ → ℕ → Kind → List ℕ → Option Receipt
receipt_shown column row (kinds.Received value) text = Some (receipt column row value text)
receipt_shown column row (kinds.FromPrelude value) text = Some (receipt column row value text)
receipt_shown column row _ text = None

abbrev pub receipt_in : Seen → Option Receipt
receipt_in seen = receipt_shown seen.column seen.row seen.kind seen.text

-- what these marks show as received, of a prelude or not
abbrev pub receipts_in : List Seen → List Receipt
receipts_in marks = filter_map receipt_in marks
