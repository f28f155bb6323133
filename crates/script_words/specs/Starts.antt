-- When a source is collected, from the words of a line.
use Rattle.std.specs.Prelude.{◌≡◌, ℕ, List, [], ◌∷◌, Option, Some, None, codes, bytes_eq, if◌then◌else◌}
use Rattle.std.specs.Option.{option_map}
use Rattle.flow_terms.specs.declared.plan.Entry.{Entry}
use Rattle.flow_terms.specs.declared.plan.Plan.{Plan as CommandPlan}
use Rattle.flow_terms.specs.declared.refusal.Refusal.{Refusal}
use Rattle.flow_terms.specs.declared.refusal.Refusal.TheVariants.{BadPlan}
use Rattle.flow_terms.specs.declared.started.Started.{Started}
use Rattle.flow_terms.specs.declared.started.Started.TheVariants.{Eagerly, Lazily, WhileSubscribed, Custom}
use Rattle.flow_terms.specs.Plans.{entries_of, is_plan}
use Rattle.script_words.specs.declared.start.Start.{Start}
use Rattle.script_words.specs.declared.start.Start.TheVariants.{Eager, Lazy, While, Plan}
use Rattle.script_words.specs.Plans.{entries_written, entries_at}
use Rattle.script_words.specs.Words.{start_by}

-- as a word says, or by a plan of these entries
pub data Starting : Type 0 where
  given : Started → Starting
  planned : List Entry → Starting

abbrev pub starting_in : Start → Starting
starting_in Eager = given Eagerly
starting_in Lazy = given Lazily
starting_in (While stop expire) = given (WhileSubscribed stop expire)
starting_in (Plan entries) = planned (entries_written entries)

-- after `plan`
abbrev pub plan_at : List (List ℕ) → Option (Starting × List (List ℕ))
plan_at [] = None
plan_at (word ∷ words) = option_map (λ entries. (planned entries, words)) (entries_at word)

abbrev pub starting_by : List ℕ → List (List ℕ) → Option (Starting × List (List ℕ))
starting_by first words =
    if bytes_eq first (codes "plan") then plan_at words
    else option_map (λ taken. (given taken.0, taken.1)) (start_by first words)

abbrev pub starting_at : List (List ℕ) → Option (Starting × List (List ℕ))
starting_at [] = None
starting_at (first ∷ words) = starting_by first words

-- why no sharing is started so
abbrev pub start_refusal : Starting → Option Refusal
start_refusal (given said) = None
start_refusal (planned entries) = if is_plan entries then None else Some BadPlan

-- a sharing is started so
abbrev pub StartsAs : Starting → Started → Type 0
StartsAs (given said) started = started ≡ said
StartsAs (planned entries) started = (plan : CommandPlan) × (started ≡ Custom plan) × (entries_of plan ≡ entries)
