-- What is taken from the words of a line, one after another.
use Rattle.std.specs.Prelude.{ℕ, List, [], ◌∷◌, Option, Some, None, bytes_eq, codes, if◌then◌else◌}
use Rattle.std.specs.Option.{option_map}
use Rattle.flow_terms.specs.declared.policy.Policy.{Policy}
use Rattle.flow_terms.specs.declared.started.Started.{Started}
use Rattle.flow_terms.specs.declared.started.Started.TheVariants.{Eagerly, Lazily, WhileSubscribed}
use Rattle.script_words.specs.Fields.{is_name, number_of, policy_of, expiry_of}

infixl 10 ◌>>=◌
abbrev pub ◌>>=◌ : {A B : Type 0} → Option A → (A → Option B) → Option B
None >>= f = None
(Some x) >>= f = f x

-- a field, and the words after it
abbrev pub name_at : List (List ℕ) → Option (List ℕ × List (List ℕ))
name_at [] = None
name_at (word ∷ words) = if is_name word then Some (word, words) else None

abbrev pub number_at : List (List ℕ) → Option (ℕ × List (List ℕ))
number_at [] = None
number_at (word ∷ words) = option_map (λ number. (number, words)) (number_of word)

abbrev pub policy_at : List (List ℕ) → Option (Policy × List (List ℕ))
policy_at [] = None
policy_at (word ∷ words) = option_map (λ policy. (policy, words)) (policy_of word)

-- a number, or `never`
abbrev pub expiry_at : List (List ℕ) → Option (Option ℕ × List (List ℕ))
expiry_at [] = None
expiry_at (word ∷ words) = option_map (λ expiry. (expiry, words)) (expiry_of word)

-- after `while`: how long after the last subscription it stops, and how long after that it resets
abbrev pub while_at : List (List ℕ) → Option (Started × List (List ℕ))
while_at words = do
  stop ← number_at words
  expire ← expiry_at stop.1
  Some (WhileSubscribed stop.0 expire.0, expire.1)

-- as a word says when a source is collected
abbrev pub start_by : List ℕ → List (List ℕ) → Option (Started × List (List ℕ))
start_by first words =
    if bytes_eq first (codes "eager") then Some (Eagerly, words)
    else (if bytes_eq first (codes "lazy") then Some (Lazily, words)
    else (if bytes_eq first (codes "while") then while_at words
    else None))

-- no word is left
abbrev pub ended : List (List ℕ) → Option (Unit {0})
ended [] = Some tt
ended (word ∷ words) = None
