-- What a command line asks of a program that draws. The first word is the program's own name.
use Rattle.std.specs.Prelude.{ℕ, Bool, true, false, List, [], ◌∷◌, Option, Some, None, codes, bytes_eq, if◌then◌else◌}
use Rattle.std.specs.Option.{option_map}
use Rattle.script_words.specs.declared.engine.Engine.{Engine}
use Rattle.script_words.specs.declared.engine.Engine.TheVariants.{Core}
use Rattle.script_words.specs.Engines.{engine_of}
use Rattle.program_words.specs.declared.wish.Wish.{Wish}

abbrev pub wish : Engine → Bool → Wish
wish engine text = record { engine = engine; is_text = text }

abbrev pub is_text : List ℕ → Bool
is_text word = bytes_eq word (codes "--text")

abbrev pub wish_of_one : List ℕ → Option Wish
wish_of_one word =
    if is_text word then Some (wish Core true)
    else option_map (λ engine. wish engine false) (engine_of word)

abbrev pub wish_of_two : List ℕ → List ℕ → Option Wish
wish_of_two engine text =
    if is_text text then option_map (λ engine. wish engine true) (engine_of engine) else None

-- WHAT THESE WORDS ASK FOR: none, an engine, the word for characters, or both in either order. All else is refused.
abbrev pub wish_by : List (List ℕ) → Option Wish
wish_by [] = Some (wish Core false)
wish_by (own ∷ []) = Some (wish Core false)
wish_by (own ∷ word ∷ []) = wish_of_one word
wish_by (own ∷ one ∷ other ∷ []) = if is_text one then wish_of_two other one else wish_of_two one other
wish_by (own ∷ one ∷ other ∷ third ∷ words) = None
