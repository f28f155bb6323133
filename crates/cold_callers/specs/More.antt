-- What comes out of six operators in a row.
use Rattle.std.specs.Prelude.{ℕ, ◌-◌, Bool, true, List, [], ◌∷◌, Option, None, filter_map}
use Rattle.std.specs.List.{range_with_len}
use Rattle.cold_flow.specs.Trace.{Trace, on_values}
use Rattle.more_operators.specs.DistinctBy.{distinct_by_after}
use Rattle.more_operators.specs.DropWhile.{dropped_while}
use Rattle.more_operators.specs.Reduce.{reduced_after}
use Rattle.more_operators.specs.Retry.{behind}
use Rattle.more_operators.specs.While.{while_trace}
use Rattle.cold_callers.specs.Lists.{whole_list}

-- the values of the numbers from 1 up to below to, behind 0
abbrev pub six_trace : {K E : Type 0} → (K → K → Bool) → (ℕ → K) → (ℕ → Bool) → (ℕ → Option ℕ) → (ℕ × ℕ → ℕ) → (ℕ → Bool) → ℕ → Trace ℕ E
six_trace alike key early choose function wanted to =
    behind (0 ∷ []) (while_trace wanted (on_values (reduced_after function None) (on_values (filter_map choose)
    (on_values (dropped_while early true) (on_values (distinct_by_after alike key None) (whole_list (range_with_len 1 (to - 1))))))))
