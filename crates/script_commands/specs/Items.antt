-- A list as one word: items with commas between.
use Rattle.std.specs.Prelude.{ℕ, Bool, List, [], ◌∷◌, ◌++◌, map, Option, Some, None, codes, bytes_eq, is_some, unwrap_or, ◌==◌, if◌then◌else◌}
use Rattle.std.specs.Option.{option_map}
use Rattle.std.specs.List.{slice_split, list_all, filter_map}
use Rattle.cold_flow.specs.declared.builders.scripted.Step.{Step}
use Rattle.cold_flow.specs.declared.builders.scripted.Step.TheVariants as steps
use Rattle.script_commands.specs.declared.items.Item.{Item}
use Rattle.script_commands.specs.declared.items.Item.TheVariants.{Number, Pending}
use Rattle.script_commands.specs.declared.items.Items.{Items}
use Rattle.script_words.specs.Fields.{number_of}

-- a number, or `p`
abbrev pub item_of : List ℕ → Option Item
item_of word = if bytes_eq word (codes "p") then Some Pending else option_map (λ number. Number number) (number_of word)

abbrev pub is_item : List ℕ → Bool
is_item word = is_some (item_of word)

abbrev pub is_comma : ℕ → Bool
is_comma byte = byte == 44

-- whether each part between commas is an item
abbrev pub is_list : List ℕ → Bool
is_list word = list_all is_item (slice_split is_comma word)

-- the parts that are items
abbrev pub items_in : List ℕ → List Item
items_in word = filter_map item_of (slice_split is_comma word)

-- the items of a word that is a list
abbrev pub items_of : List ℕ → Option (List Item)
items_of word = if is_list word then Some (items_in word) else None

-- the items that were written, or none
abbrev pub written : Items → List Item
written items = unwrap_or (option_map (λ word. items_in word.now) items.word) []

abbrev pub number_in : Item → Option ℕ
number_in (Number number) = Some number
number_in Pending = None

-- the values that a flow of these items gives
abbrev pub values_of : List Item → List ℕ
values_of items = filter_map number_in items

-- what a run of these items does, poll by poll
abbrev pub step_in : Item → Step ℕ ℕ
step_in (Number number) = steps.Value number
step_in Pending = steps.Pending

abbrev pub steps_in : List Item → List (Step ℕ ℕ)
steps_in items = map step_in items

abbrev pub failing : Option ℕ → List (Step ℕ ℕ)
failing None = []
failing (Some fault) = steps.Fail fault ∷ []

-- the items, and then the failure, if there is one
abbrev pub steps_of : List Item → Option ℕ → List (Step ℕ ℕ)
steps_of items fault = steps_in items ++ failing fault
