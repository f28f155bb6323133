-- How wide the words of marks are, and which values a state's row has.
use Rattle.std.specs.Prelude.{ℕ, ◌+◌, ◌==◌, List, [], ◌∷◌, length, min, max, Option, Some, None, if◌then◌else◌}
use Rattle.marble_marks.specs.declared.mark.Kind.{Kind}
use Rattle.marble_marks.specs.declared.mark.Kind.TheVariants as kinds
use Rattle.marble_marks.specs.declared.mark.Mark.{Mark}
use Rattle.marble_marks.specs.declared.mark.Spot.{Spot}
use Rattle.marble_marks.specs.declared.mark.Row.TheVariants as rows
use Rattle.marble_pictures.specs.declared.caption.Purpose.{Purpose}
use Rattle.marble_pictures.specs.declared.caption.Purpose.TheVariants as purposes
use Rattle.marble_pictures.specs.declared.line.Span.{Span}
use Rattle.marble_pictures.specs.declared.widths.Widths.{Widths}
use Rattle.marble_pictures.specs.Captions.{words_of, sign}

-- what a mark's words are for
abbrev pub purpose_of : Kind → Purpose
purpose_of (kinds.Named row) = purposes.Name
purpose_of (kinds.Number number at) = purposes.Number
purpose_of _ = purposes.Place

-- the value of a state from a mark on, where the mark says one
abbrev pub state_value : Kind → Option ℕ
state_value (kinds.Begun (rows.State value)) = Some value
state_value (kinds.Set value) = Some value
state_value (kinds.Holds value) = Some value
state_value _ = None

-- where a mark stands among all that one line accepts
abbrev pub alone : Spot
alone = record { index = 0; count = 1 }

abbrev pub spot_of : Kind → Spot
spot_of (kinds.AcceptedLater value at) = at
spot_of (kinds.Number number at) = at
spot_of _ = alone

-- ---- widths

abbrev pub said_length : Mark → ℕ
said_length mark = length (words_of mark.kind mark.text.now)

-- with its sign
abbrev pub shown_length : Mark → ℕ
shown_length mark = min (said_length mark + length (sign mark.kind)) 18446744073709551615

abbrev pub for_name : Purpose → ℕ → ℕ → ℕ
for_name purposes.Name shown most = max shown most
for_name _ shown most = most

abbrev pub for_number : Purpose → ℕ → ℕ → ℕ
for_number purposes.Number shown most = max shown most
for_number _ shown most = most

abbrev pub for_place : Purpose → ℕ → ℕ → ℕ
for_place purposes.Place shown most = max shown most
for_place _ shown most = most

abbrev pub for_value : Option ℕ → ℕ → ℕ → ℕ
for_value (Some value) said most = max said most
for_value None said most = most

abbrev pub for_late : Kind → ℕ → ℕ → ℕ
for_late (kinds.AcceptedLater value at) shown most = max shown most
for_late _ shown most = most

-- with one more mark
abbrev pub wider : Widths → Mark → Widths
wider widths mark = record {
  name = for_name (purpose_of mark.kind) (shown_length mark) widths.name;
  number = for_number (purpose_of mark.kind) (shown_length mark) widths.number;
  place = for_place (purpose_of mark.kind) (shown_length mark) widths.place;
  value = for_value (state_value mark.kind) (said_length mark) widths.value;
  late = for_late mark.kind (shown_length mark) widths.late;
  slots = max (spot_of mark.kind).count widths.slots;
  last_column = max mark.column widths.last_column;
}

abbrev pub wider_by : Widths → List Mark → Widths
wider_by widths [] = widths
wider_by widths (mark ∷ marks) = wider_by (wider widths mark) marks

-- HOW WIDE THE WORDS of these marks are
abbrev pub widths_of : List Mark → Widths
widths_of marks = wider_by (record { name = 0; number = 0; place = 0; value = 0; late = 0; slots = 0; last_column = 0 }) marks

-- ---- the values of a state

abbrev pub wider_span : Span → Option ℕ → Span
wider_span span (Some value) = record { low = min value span.low; high = max value span.high }
wider_span span None = span

abbrev pub span_from : ℕ → Span → List Mark → Span
span_from row span [] = span
span_from row span (mark ∷ marks) = if mark.row == row then span_from row (wider_span span (state_value mark.kind)) marks else span

-- THE SPAN OF A ROW, of which these marks are the first
abbrev pub span_of : ℕ → List Mark → Span
span_of row marks = span_from row (record { low = 18446744073709551615; high = 0 }) marks
