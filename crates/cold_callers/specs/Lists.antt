-- What is collected of lists.
use Rattle.std.specs.Prelude.{◌≡◌, ℕ, ◌-◌, ◌⊎◌, Bool, List, Some, None, Result, IfOk, map, filter, drop}
use Rattle.std.specs.List.{range_with_len}
use Rattle.cold_flow.specs.declared.cause.Cause.TheVariants.{Finished, Refused}
use Rattle.cold_flow.specs.declared.ends.collect.Collected.{Collected}
use Rattle.flow_terms.specs.declared.refusal.Refusal.{Refusal}
use Rattle.flow_terms.specs.declared.refusal.Refusal.TheVariants.{NoMemory}
use Rattle.cold_flow.specs.Trace.{Trace, ended_by, map_trace, take_trace, on_values}
use Rattle.cold_flow.specs.Poll.{Traces, Fixes}
use Rattle.cold_flow.specs.Distinct.{distinct_after}
use Rattle.flow_merge.specs.Concat.{joined}

-- what was collected, as a trace
abbrev pub trace_of : {A E : Type 0} → Collected A E → Trace A E
trace_of list = ended_by list.values.items list.cause

-- all values of a list, and then the end
abbrev pub whole_list : {A E : Type 0} → List A → Trace A E
whole_list values = ended_by values Finished

-- what five operators make of the numbers below a limit: the first is left out, then g of each, of those the ones that pass a test, of
-- these no two alike in a row, and of these the first 3
abbrev pub chain_trace : {E : Type 0} → (ℕ → ℕ → Bool) → (ℕ → ℕ) → (ℕ → Bool) → ℕ → Trace ℕ E
chain_trace alike g passes to =
    take_trace 3 (on_values (distinct_after alike None) (on_values (filter passes)
    (map_trace g (on_values (drop 1) (whole_list (range_with_len 0 (to - 0)))))))

-- where each inner flow can give one whole trace alone, what was collected is those joined, unless memory lacked
abbrev pub CollectsJoined : {A B E : Type 0} → (A → Traces B E) → List A → Result (Collected B E) Refusal → Type 0
CollectsJoined {A} {B} {E} inner values result =
    (whole : A → Trace B E) → ((x : A) → Fixes (whole x) (inner x))
    → IfOk result (λ list. (list.cause ≡ Refused NoMemory) ⊎ (trace_of list ≡ joined (map whole values) (Some Finished)))
