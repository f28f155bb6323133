-- The segments of a pipe: its words between bars.
use Rattle.std.specs.Prelude.{ℕ, Bool, List, [], Option, Some, None, codes, bytes_eq}
use Rattle.std.specs.List.{slice_split}
use Rattle.script_words.specs.declared.segments.Segments.{Segments}
use Rattle.script_words.specs.declared.words.Words.{Words}
use Rattle.script_words.specs.Lines.{words_of}

abbrev pub is_bar : List ℕ → Bool
is_bar word = bytes_eq word (codes "|")

abbrev pub segments_of : List (List ℕ) → List (List (List ℕ))
segments_of words = slice_split is_bar words

-- the segments of the words after a bar, or none after the last segment
abbrev pub after_bar : Option Words → List (List (List ℕ))
after_bar None = []
after_bar (Some words) = segments_of (words_of words.rest.now)

-- the segments that are left
abbrev pub segments_left : Segments → List (List (List ℕ))
segments_left segments = after_bar segments.rest
