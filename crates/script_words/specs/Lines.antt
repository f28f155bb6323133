-- The lines of a script and the words of a line.
use Rattle.std.specs.Prelude.{ℕ, not, Bool, true, false, List, [], ◌∷◌, ◌==◌, ◌&&◌, if◌then◌else◌}

abbrev pub is_newline : ℕ → Bool
is_newline byte = byte == 10

abbrev pub is_return : ℕ → Bool
is_return byte = byte == 13

abbrev pub is_space : ℕ → Bool
is_space byte = byte == 32

abbrev pub is_no_space : ℕ → Bool
is_no_space byte = not (is_space byte)

abbrev pub starts_with_newline : List ℕ → Bool
starts_with_newline [] = false
starts_with_newline (byte ∷ bytes) = is_newline byte

-- the byte at the front of the first of the pieces, which it makes where there is none
abbrev pub onto_first : ℕ → List (List ℕ) → List (List ℕ)
onto_first byte [] = (byte ∷ []) ∷ []
onto_first byte (piece ∷ pieces) = (byte ∷ piece) ∷ pieces

-- The lines, each without its end. A newline ends a line, one carriage return right before it belongs to
-- the end, and the last line may lack its end.
abbrev pub lines_of : List ℕ → List (List ℕ)
lines_of [] = []
lines_of (byte ∷ bytes) =
    if is_newline byte then [] ∷ lines_of bytes
    else (if is_return byte && starts_with_newline bytes then lines_of bytes else onto_first byte (lines_of bytes))

abbrev pub starts_with_word : List ℕ → Bool
starts_with_word [] = false
starts_with_word (byte ∷ bytes) = if is_space byte then false else true

-- The words, which spaces separate.
abbrev pub words_of : List ℕ → List (List ℕ)
words_of [] = []
words_of (byte ∷ bytes) =
    if is_space byte then words_of bytes
    else (if starts_with_word bytes then onto_first byte (words_of bytes) else (byte ∷ []) ∷ words_of bytes)

-- the line without one carriage return at its end
abbrev pub without_return : List ℕ → List ℕ
without_return [] = []
without_return (byte ∷ []) = if is_return byte then [] else byte ∷ []
without_return (byte ∷ next ∷ bytes) = byte ∷ without_return (next ∷ bytes)

-- a line whose first word begins so has no answer
abbrev pub starts_with_hash : List ℕ → Bool
starts_with_hash [] = false
starts_with_hash (byte ∷ bytes) = byte == 35
