-- Read this first: what a command line asks for where no word is an option. The first word is the program's own name.
use Rattle.std.specs.Prelude.{◌≡◌, ◌≢◌, ◌⊎◌, ℕ, List, [], ◌∷◌, Option, Some, None, Result, Ok, Err, codes, unwrap_or}
use Rattle.std.specs.Str.Parse.{IsNumeral, digits_value, without_leading_plus}
use Rattle.clap.specs.Words.{App, all_of, fault_of, matches_of, new_app, new_rule, with_rule}
use Rattle.clap.specs.declared.builder.action.ArgAction.TheVariants.{Append}
use Rattle.script_words.specs.declared.engine.Engine.{Engine}
use Rattle.script_words.specs.declared.engine.Engine.TheVariants.{Core}
use Rattle.script_words.specs.Engines.{engine_of}
use Rattle.program_words.specs.declared.fault.WordsFault.{WordsFault}
use Rattle.program_words.specs.declared.fault.WordsFault.TheVariants.{Usage, NoMemory}

-- the command, in the option parser's terms: words, as many as one likes, and no option
abbrev pub plain : App
plain = with_rule (new_app (codes "program")) (record (new_rule (codes "word")) { action = Some Append })

-- these words
abbrev pub plain_in : List (List ℕ) → List (List ℕ)
plain_in words = unwrap_or (all_of (codes "word") (matches_of plain words)) []

-- the engine that one word names, `core` where there is none
abbrev pub engine_by : List (List ℕ) → Option Engine
engine_by [] = Some Core
engine_by (word ∷ []) = engine_of word
engine_by (word ∷ other ∷ words) = None

-- What is asked for comes where the option parser finds no fault in the words, and is what they say. A refusal for the
-- words comes only where the parser finds a fault, or where they say nothing.
abbrev pub Answers : {T : Type 0} → (List (List ℕ) → Option T) → List (List ℕ) → Result T WordsFault → Type 0
Answers asked words (Ok value) = (fault_of plain words ≡ []) × (asked (plain_in words) ≡ Some value)
Answers asked words (Err Usage) = (fault_of plain words ≢ []) ⊎ (asked (plain_in words) ≡ None)
Answers asked words (Err NoMemory) = Unit {0}

-- as many minutes as the one word says, or none where there is no word
abbrev pub SaysMinutes : List (List ℕ) → Option ℕ → Type 0
SaysMinutes [] minutes = minutes ≡ None
SaysMinutes (word ∷ words) minutes = (words ≡ []) × IsNumeral 10 (without_leading_plus word)
    × (minutes ≡ Some (digits_value 10 (without_leading_plus word)))
