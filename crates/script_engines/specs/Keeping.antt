-- WHAT A STATE OF A SCRIPT IS, as a function of the lines about it. Read this first. It is the list of the values that it had, the last
-- of which stands; and of each collector, the list of what that was given. A value joins the history where it differs from the one that
-- stands. A collector is given the value that stands, where that is another than the last one that it was given.
use Rattle.std.specs.Prelude.{ℕ, suc, Bool, true, false, ◌==◌, nat_lt, List, [], ◌∷◌, ◌++◌, length, map, slice_get, slice_set, Option, Some, None, is_some, unwrap_or, Result, Ok, Err, if◌then◌else◌}
use Rattle.flow_terms.specs.declared.refusal.Refusal.{Refusal}
use Rattle.flow_terms.specs.declared.refusal.Refusal.TheVariants.{SubscribersFull}
use Rattle.flow_terms.specs.declared.ids.SubId.{SubId}
use Rattle.flow_terms.specs.declared.answers.Next.{Next}
use Rattle.flow_terms.specs.declared.answers.Next.TheVariants.{Value, Nothing, Closed}
use Rattle.state_flow.specs.History.{last_of}

pub record Kept : Type 0 where
  -- each value that it had, from the first on
  pub history : List ℕ
  -- of each collector that was made: what it was given, unless it was cancelled
  pub collectors : List (Option (List ℕ))

-- it has had one value, and nobody has collected
abbrev pub begun : ℕ → Kept
begun value = record { history = value ∷ []; collectors = [] }

-- ---- the value

-- the value that stands
abbrev pub standing : Kept → ℕ
standing kept = unwrap_or (last_of kept.history) 0

abbrev pub written : ℕ → Kept → Kept
written value kept = if standing kept == value then kept else record kept { history = kept.history ++ value ∷ [] }

-- the second value is written where the first one stands
abbrev pub compared : ℕ → ℕ → Kept → Bool × Kept
compared expect update kept = (standing kept == expect, if standing kept == expect then written update kept else kept)

-- ---- collectors

-- how many of these are true
abbrev pub collecting : List Bool → ℕ
collecting [] = 0
collecting (true ∷ rest) = suc (collecting rest)
collecting (false ∷ rest) = collecting rest

-- how many collect
abbrev pub collector_count : Kept → ℕ
collector_count kept = collecting (map is_some kept.collectors)

-- one more collects, where fewer than 8 do: it was given nothing yet, and its name is its place
abbrev pub collected : Kept → Result SubId Refusal × Kept
collected kept = if nat_lt (collector_count kept) 8
    then (Ok (record { 0 = length kept.collectors }), record kept { collectors = kept.collectors ++ Some [] ∷ [] })
    else (Err SubscribersFull, kept)

-- whether the last of these values is that one
abbrev pub is_last : ℕ → Option ℕ → Bool
is_last value None = false
is_last value (Some last) = last == value

-- what the collector with an index is given, by what it was given
abbrev pub next_by : ℕ → Option (Option (List ℕ)) → Kept → Next ℕ × Kept
next_by index (Some (Some given)) kept = if is_last (standing kept) (last_of given)
    then (Nothing, kept)
    else (Value (standing kept), record kept { collectors = slice_set kept.collectors index (Some (given ++ standing kept ∷ [])) })
next_by index (Some None) kept = (Closed, kept)
next_by index None kept = (Closed, kept)

abbrev pub next_value : ℕ → Kept → Next ℕ × Kept
next_value index kept = next_by index (slice_get kept.collectors index) kept

-- the collector with an index ends, if it collects
abbrev pub cancel_by : ℕ → Option (Option (List ℕ)) → Kept → Bool × Kept
cancel_by index (Some (Some given)) kept = (true, record kept { collectors = slice_set kept.collectors index None })
cancel_by index (Some None) kept = (false, kept)
cancel_by index None kept = (false, kept)

abbrev pub cancelled : ℕ → Kept → Bool × Kept
cancelled index kept = cancel_by index (slice_get kept.collectors index) kept
