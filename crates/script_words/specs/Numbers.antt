-- A list of numbers as one word, with commas between.
use Rattle.std.specs.Prelude.{ℕ, Bool, List, [], ◌∷◌, Option, Some, None, is_some, unwrap_or, if◌then◌else◌}
use Rattle.std.specs.Option.{option_map}
use Rattle.std.specs.List.{slice_split, list_all, filter_map}
use Rattle.script_words.specs.declared.numbers.Numbers.{Numbers}
use Rattle.script_words.specs.Fields.{number_of}
use Rattle.script_words.specs.Plans.{is_comma}

abbrev pub is_number : List ℕ → Bool
is_number word = is_some (number_of word)

-- whether each part between commas is a number
abbrev pub are_numbers : List ℕ → Bool
are_numbers word = list_all is_number (slice_split is_comma word)

-- the parts that are numbers
abbrev pub numbers_in : List ℕ → List ℕ
numbers_in word = filter_map number_of (slice_split is_comma word)

-- the numbers that were written, or none
abbrev pub written : Numbers → List ℕ
written numbers = unwrap_or (option_map (λ word. numbers_in word.now) numbers.word) []

-- the numbers of a word that is a list of them, and the words after it
abbrev pub list_at : List (List ℕ) → Option (List ℕ × List (List ℕ))
list_at [] = None
list_at (word ∷ words) = if are_numbers word then Some (numbers_in word, words) else None
