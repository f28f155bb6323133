-- The sources, from their words.
use Rattle.std.specs.Prelude.{ℕ, ◌-◌, List, [], ◌∷◌, Option, Some, None, codes, bytes_eq, if◌then◌else◌}
use Rattle.std.specs.List.{range_with_len}
use Rattle.std.specs.Option.{option_map}
use Rattle.cold_flow.specs.declared.cause.Cause.{Cause}
use Rattle.cold_flow.specs.declared.cause.Cause.TheVariants.{Finished, Failed}
use Rattle.cold_flow.specs.Trace.{Trace, ended_by}
use Rattle.script_commands.specs.declared.items.Item.{Item}
use Rattle.script_commands.specs.declared.source.Source.{Source}
use Rattle.script_commands.specs.declared.source.Source.TheVariants as sources
use Rattle.script_commands.specs.Items.{items_of, written, values_of}
use Rattle.script_words.specs.Words.{◌>>=◌, number_at, ended}

-- where values come from
pub data Origin : Type 0 where
  of : List Item → Origin
  range : ℕ → ℕ → Origin
  fail : ℕ → List Item → Origin

abbrev pub origin_in : Source → Origin
origin_in (sources.Of items) = of (written items)
origin_in (sources.Range from to) = range from to
origin_in (sources.Fail fault items) = fail fault (written items)

-- the items of a list that may lack, and after which no word stands
abbrev pub last_list : List (List ℕ) → Option (List Item)
last_list [] = Some []
last_list (word ∷ words) = do
  items ← items_of word
  option_map (λ _. items) (ended words)

unfoldable pub of_of : List (List ℕ) → Option Origin
of_of words = do
  items ← last_list words
  Some (of items)

unfoldable pub range_of : List (List ℕ) → Option Origin
range_of words = do
  from ← number_at words
  to ← number_at from.1
  option_map (λ _. range from.0 to.0) (ended to.1)

unfoldable pub fail_of : List (List ℕ) → Option Origin
fail_of words = do
  fault ← number_at words
  items ← last_list fault.1
  Some (fail fault.0 items)

abbrev pub origin_by : List ℕ → List (List ℕ) → Option Origin
origin_by first words =
    if bytes_eq first (codes "of") then of_of words
    else (if bytes_eq first (codes "range") then range_of words
    else (if bytes_eq first (codes "fail") then fail_of words
    else None))

-- the source that all of these words say
abbrev pub origin_of : List (List ℕ) → Option Origin
origin_of [] = None
origin_of (first ∷ words) = origin_by first words

-- the values of a source, pending answers left out, and how it ends
abbrev pub values_from : Origin → List ℕ
values_from (of items) = values_of items
values_from (range from to) = range_with_len from (to - from)
values_from (fail fault items) = values_of items

abbrev pub cause_from : Origin → Cause ℕ
cause_from (of items) = Finished
cause_from (range from to) = Finished
cause_from (fail fault items) = Failed fault

-- what a source gives
abbrev pub given : Origin → Trace ℕ ℕ
given origin = ended_by (values_from origin) (cause_from origin)
