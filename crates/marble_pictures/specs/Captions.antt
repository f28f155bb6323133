-- The words of marks.
use Rattle.std.specs.Prelude.{ℕ, List, [], ◌++◌, map, take, length, codes, decimal, nat_le, if◌then◌else◌}
use Rattle.marble_marks.specs.declared.mark.Kind.{Kind}
use Rattle.marble_marks.specs.declared.mark.Kind.TheVariants as kinds
use Rattle.marble_marks.specs.declared.mark.Row.{Row}
use Rattle.marble_marks.specs.declared.mark.Row.TheVariants as rows

-- a question mark for a byte that is no printable character of ASCII
abbrev pub plain_byte : ℕ → ℕ
plain_byte byte = if nat_le 32 byte then (if nat_le byte 126 then byte else 63) else 63

abbrev pub plain : List ℕ → List ℕ
plain bytes = map plain_byte bytes

-- an answer, or its front and a sign for the rest
abbrev pub plain_answer : List ℕ → List ℕ
plain_answer answer = if nat_le (length answer) 14 then plain answer else plain (take 14 answer) ++ codes "~"

-- the sign before a mark's value in a text without pictures
abbrev pub sign : Kind → List ℕ
sign (kinds.Bad number reason) = codes "x"
sign (kinds.Lost value) = codes "x"
sign (kinds.Dropped value) = codes "/"
sign (kinds.Full value) = codes "!"
sign (kinds.Begun (rows.State value)) = codes "="
sign (kinds.Begun (rows.Ticket value)) = codes "?"
sign (kinds.Begun row) = codes "o"
sign (kinds.Set value) = codes "="
sign kinds.Waiting = codes "?"
sign (kinds.AcceptedLater value at) = codes "<"
sign kinds.Nothing = codes "."
sign kinds.Cancelled = codes "|"
sign kinds.Ticked = codes ">"
sign (kinds.FromPrelude value) = codes "+"
sign _ = []

-- what a row is for
abbrev pub role : Row → List ℕ
role rows.Flow = codes "flow "
role (rows.State value) = codes "state "
role rows.Buffer = codes "buffer "
role rows.Subscription = codes "sub "
role rows.Collector = codes "collector "
role (rows.Ticket value) = codes "ticket "

abbrev pub begun_words : Row → List ℕ
begun_words (rows.State value) = decimal value
begun_words (rows.Ticket value) = decimal value
begun_words _ = []

-- WHAT A MARK SAYS, by its kind and its text
abbrev pub words_of : Kind → List ℕ → List ℕ
words_of (kinds.Line number) text = decimal number
words_of (kinds.Bad number reason) text = decimal number
words_of (kinds.Named row) text = role row ++ plain text
words_of (kinds.Begun row) text = begun_words row
words_of (kinds.Accepted value) text = decimal value
words_of (kinds.AcceptedLater value at) text = decimal value
words_of (kinds.Number number at) text = codes "#" ++ decimal number
words_of (kinds.Lost value) text = decimal value
words_of (kinds.Dropped value) text = decimal value
words_of (kinds.Full value) text = decimal value
words_of (kinds.Set value) text = decimal value
words_of (kinds.Holds value) text = decimal value
words_of (kinds.Received value) text = decimal value
words_of (kinds.FromPrelude value) text = decimal value
words_of kinds.Nothing text = []
words_of kinds.Waiting text = []
words_of kinds.Done text = plain_answer text
words_of kinds.Removed text = plain_answer text
words_of kinds.Left text = plain_answer text
words_of kinds.Gone text = plain_answer text
words_of kinds.Cancelled text = []
words_of kinds.Ticked text = plain_answer text
words_of kinds.Said text = plain_answer text
