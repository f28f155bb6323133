-- Which marks a picture has.
use Rattle.std.specs.Prelude.{ℕ, ◌+◌, List, [], ◌∷◌, ◌++◌, Option, Some, None, bytes_eq, if◌then◌else◌}
use Rattle.std.specs.List.{filter_map}
use Rattle.script_commands.specs.Commands.{Order}
use Rattle.marble_marks.specs.declared.mark.Kind.{Kind}
use Rattle.marble_marks.specs.declared.mark.Kind.TheVariants as kinds
use Rattle.marble_marks.specs.declared.mark.Mark.{Mark}
use Rattle.marble_marks.specs.declared.reply.Reply.{Reply}
use Rattle.marble_marks.specs.declared.reply.Reply.TheVariants as replies
use Rattle.marble_marks.specs.Replies.{reply_of}
use Rattle.marble_marks.specs.AnsweredLines.{Asked}
use Rattle.marble_marks.specs.Happenings.{Event, happening_of}
use Rattle.marble_marks.specs.Homes.{name_by, home_after}
use Rattle.marble_marks.specs.Preludes.{kind_by, left_after}

-- ---- rows

abbrev pub shown_by : Option Order → Reply → Option Event
shown_by None reply = None
shown_by (Some order) reply = happening_of order reply

-- what a line shows on a row
abbrev pub shown : Asked → Option Event
shown asked = shown_by asked.order (reply_of asked.answer)

abbrev pub begun_name : List ℕ → Kind → Option (List ℕ)
begun_name name (kinds.Begun row) = Some name
begun_name name _ = None

abbrev pub name_shown : Option Event → Option (List ℕ)
name_shown None = None
name_shown (Some event) = begun_name event.name event.kind

-- the name that a line binds to a row of its own
abbrev pub name_of : Asked → Option (List ℕ)
name_of asked = name_shown (shown asked)

-- THE NAMES THAT HAVE ROWS, in their order
abbrev pub names_in : List Asked → List (List ℕ)
names_in asked = filter_map name_of asked

-- the row of a name, after so many others; where it has none of its own, a row below all names
abbrev pub row_after : ℕ → List (List ℕ) → List ℕ → ℕ
row_after row [] name = row
row_after row (known ∷ names) name = if bytes_eq known name then row else row_after (row + 1) names name

abbrev pub row_of : List (List ℕ) → List ℕ → ℕ
row_of names name = row_after 1 names name

-- ---- marks

-- a mark, its text as bytes
pub record Seen : Type 0 where
  pub column : ℕ
  pub row : ℕ
  pub kind : Kind
  pub text : List ℕ

abbrev pub seen : ℕ → ℕ → Kind → List ℕ → Seen
seen column row kind text = record { column = column; row = row; kind = kind; text = text }

abbrev pub mark_in : Mark → Seen
mark_in mark = seen mark.column mark.row mark.kind mark.text.now

abbrev pub line_kind : ℕ → Reply → Kind
line_kind number (replies.Bad reason) = kinds.Bad number reason
line_kind number _ = kinds.Line number

-- the mark at the head of a line's column
abbrev pub line_mark : Asked → Seen
line_mark asked = seen asked.column 0 (line_kind asked.number (reply_of asked.answer)) asked.line

-- the name before a row that begins
abbrev pub label_marks : ℕ → List ℕ → Kind → List Seen
label_marks row name (kinds.Begun begun) = seen 0 row (kinds.Named begun) name ∷ []
label_marks row name _ = []

-- the marks on rows of what is shown of a name, where it was an emission on this flow that was finished at once, or has so many values of
-- its prelude still to take
abbrev pub row_marks : List (List ℕ) → (List ℕ → Option (List ℕ)) → (List ℕ → ℕ) → ℕ → List ℕ → Option Event → List Seen
row_marks names home left column answer None = []
row_marks names home left column answer (Some event) =
    let row = row_of names (name_by (home event.name) event.name event.kind) in
    seen column row (kind_by (left event.name) event.kind) answer ∷ label_marks row event.name event.kind

-- the marks of a line, where these names have rows
abbrev pub marks_at : List (List ℕ) → (List ℕ → Option (List ℕ)) → (List ℕ → ℕ) → Asked → List Seen
marks_at names home left asked = line_mark asked ∷ row_marks names home left asked.column asked.text (shown asked)

-- the marks of these lines, where earlier ones told of each name the flow on which it was finished at once, if it was, and what is left of
-- its prelude
abbrev pub marks_from : List (List ℕ) → (List ℕ → Option (List ℕ)) → (List ℕ → ℕ) → List Asked → List Seen
marks_from names home left [] = []
marks_from names home left (it ∷ rest) =
    marks_at names home left it
    ++ marks_from names (λ name. home_after (home name) name it) (λ name. left_after (left name) name (shown it) it) rest

-- the marks of these lines, where none came before
unfoldable pub marks_on : List (List ℕ) → List Asked → List Seen
marks_on names asked = marks_from names (λ name. None) (λ name. 0) asked

-- THE MARKS of these lines
abbrev pub marks_of : List Asked → List Seen
marks_of asked = marks_on (names_in asked) asked
