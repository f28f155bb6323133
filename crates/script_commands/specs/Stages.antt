-- The stages of a pipe, from their words.
use Rattle.std.specs.Prelude.{ℕ, ◌^◌, Bool, List, [], ◌∷◌, Option, Some, None, codes, bytes_eq, is_some, nat_lt, if◌then◌else◌}
use Rattle.std.specs.Option.{option_map}
use Rattle.cold_flow.specs.declared.operators.catch_with.Caught.{Caught}
use Rattle.cold_flow.specs.declared.operators.catch_with.Caught.TheVariants.{End, Last, Fault}
use Rattle.script_commands.specs.declared.stage.Stage.{Stage}
use Rattle.script_commands.specs.declared.stage.Stage.TheVariants as stages
use Rattle.script_commands.specs.Sources.{Origin, origin_in, origin_of}
use Rattle.script_words.specs.Words.{◌>>=◌, number_at, ended}

-- what a stage does
pub data Operation : Type 0 where
  add : ℕ → Operation
  even : Operation
  twice : Operation
  take_first : ℕ → Operation
  drop_first : ℕ → Operation
  distinct : Operation
  catch : Caught ℕ ℕ → Operation
  done : ℕ → Operation
  zip : Origin → Operation
  combine : Origin → Operation
  concat : Option ℕ → Operation

abbrev pub operation_in : Stage → Operation
operation_in (stages.Add amount) = add amount
operation_in stages.Even = even
operation_in stages.Twice = twice
operation_in (stages.Take count) = take_first count
operation_in (stages.Drop count) = drop_first count
operation_in stages.Distinct = distinct
operation_in (stages.Catch caught) = catch caught
operation_in (stages.Done value) = done value
operation_in (stages.Zip source) = zip (origin_in source)
operation_in (stages.Combine source) = combine (origin_in source)
operation_in (stages.Concat fault) = concat fault

-- the operation, where no word is left
abbrev pub and_over : Operation → List (List ℕ) → Option Operation
and_over operation words = option_map (λ _. operation) (ended words)

-- a number below 2^32
abbrev pub small : ℕ → Option ℕ
small number = if nat_lt number (2 ^ 32) then Some number else None

-- such a number, and the words after it
abbrev pub small_number_at : List (List ℕ) → Option (ℕ × List (List ℕ))
small_number_at words = do
  number ← number_at words
  option_map (λ count. (count, number.1)) (small number.0)

unfoldable pub add_of : List (List ℕ) → Option Operation
add_of words = do
  amount ← number_at words
  and_over (add amount.0) amount.1

unfoldable pub take_of : List (List ℕ) → Option Operation
take_of words = do
  count ← small_number_at words
  and_over (take_first count.0) count.1

unfoldable pub drop_of : List (List ℕ) → Option Operation
drop_of words = do
  count ← small_number_at words
  and_over (drop_first count.0) count.1

unfoldable pub done_of : List (List ℕ) → Option Operation
done_of words = do
  value ← number_at words
  and_over (done value.0) value.1

unfoldable pub fault_of : List (List ℕ) → Option Operation
fault_of words = do
  fault ← number_at words
  and_over (catch (Fault fault.0)) fault.1

unfoldable pub last_of : List (List ℕ) → Option Operation
last_of words = do
  value ← number_at words
  and_over (catch (Last value.0)) value.1

-- `end`, `fault E`, or a value
abbrev pub catch_of : List (List ℕ) → Option Operation
catch_of [] = None
catch_of (word ∷ words) =
    if bytes_eq word (codes "end") then and_over (catch End) words
    else (if bytes_eq word (codes "fault") then fault_of words
    else last_of (word ∷ words))

unfoldable pub zip_of : List (List ℕ) → Option Operation
zip_of words = option_map zip (origin_of words)

unfoldable pub combine_of : List (List ℕ) → Option Operation
combine_of words = option_map combine (origin_of words)

unfoldable pub failing_of : List (List ℕ) → Option Operation
failing_of words = do
  fault ← number_at words
  and_over (concat (Some fault.0)) fault.1

-- nothing, or a fault
abbrev pub concat_of : List (List ℕ) → Option Operation
concat_of [] = Some (concat None)
concat_of (word ∷ words) = failing_of (word ∷ words)

abbrev pub operation_by : List ℕ → List (List ℕ) → Option Operation
operation_by first words =
    if bytes_eq first (codes "add") then add_of words
    else (if bytes_eq first (codes "even") then and_over even words
    else (if bytes_eq first (codes "twice") then and_over twice words
    else (if bytes_eq first (codes "take") then take_of words
    else (if bytes_eq first (codes "drop") then drop_of words
    else (if bytes_eq first (codes "distinct") then and_over distinct words
    else (if bytes_eq first (codes "catch") then catch_of words
    else (if bytes_eq first (codes "done") then done_of words
    else (if bytes_eq first (codes "zip") then zip_of words
    else (if bytes_eq first (codes "combine") then combine_of words
    else (if bytes_eq first (codes "concat") then concat_of words
    else None))))))))))

-- the stage that all of these words say
abbrev pub operation_of : List (List ℕ) → Option Operation
operation_of [] = None
operation_of (first ∷ words) = operation_by first words

abbrev pub is_stage : List (List ℕ) → Bool
is_stage words = is_some (operation_of words)
