-- What a pipe comes to: stage by stage, a list of values and how they end.
use Rattle.std.specs.Prelude.{◌≡◌, ◌⊎◌, ◌+◌, ◌-◌, ◌%◌, ◌^◌, ◌==◌, ◌∷◌, if◌then◌else◌}
use Rattle.std.specs.Prelude.{ℕ, Bool, List, [], length, map, drop, filter, nat_eq, nat_lt, Option, Some, None, Result, Ok, Err}
use Rattle.std.specs.List.{range_with_len}
use Rattle.cold_flow.specs.declared.cause.Cause.{Cause}
use Rattle.cold_flow.specs.declared.cause.Cause.TheVariants.{Finished, Failed}
use Rattle.flow_terms.specs.declared.few.Few.{Few}
use Rattle.flow_terms.specs.declared.few.Few.TheVariants.{Two}
use Rattle.flow_terms.specs.declared.refusal.Refusal.TheVariants.{NotPositive, NoMemory}
use Rattle.cold_flow.specs.Poll.{Traces, Fixes}
use Rattle.cold_flow.specs.Trace.{Trace, ended_by, cause_of, map_trace, on_values, take_trace}
use Rattle.cold_flow.specs.Distinct.{distinct_after}
use Rattle.cold_flow.specs.Transform.{transform_trace}
use Rattle.cold_flow.specs.Finale.{with_finale, catching, completing}
use Rattle.flow_merge.specs.Zip.{zip_trace}
use Rattle.flow_merge.specs.Combine.{combine_trace}
use Rattle.flow_merge.specs.Concat.{joined}
use Rattle.script_commands.specs.declared.answer.Answer.{Answer}
use Rattle.script_commands.specs.declared.answer.Answer.TheVariants as answers
use Rattle.script_commands.specs.declared.gathered.Gathered.{Gathered}
use Rattle.script_commands.specs.declared.gathered.Stop.{Stop}
use Rattle.script_commands.specs.declared.gathered.Stop.TheVariants.{Refused, TooMany}
use Rattle.script_commands.specs.Pipes.{Pipe}
use Rattle.script_commands.specs.Sources.{Origin, given}
use Rattle.script_commands.specs.Stages.{Operation, add, even, twice, take_first, drop_first, distinct, catch, done, zip, combine, concat}

-- a sum modulo 2^64
abbrev pub plus : ℕ → ℕ → ℕ
plus amount value = (value + amount) % 2 ^ 64

abbrev pub is_even : ℕ → Bool
is_even value = value % 2 == 0

abbrev pub both : ℕ → Few ℕ
both value = Two value value

abbrev pub sum : ℕ × ℕ → ℕ
sum values = plus values.1 values.0

-- the inner flow of a value: it and the next number, or it alone and then a fault
abbrev pub inner_of : Option ℕ → ℕ → Trace ℕ ℕ
inner_of None value = ended_by (value ∷ plus 1 value ∷ []) Finished
inner_of (Some fault) value = ended_by (value ∷ []) (Failed fault)

-- what a stage makes of what came before it
abbrev pub made_by : Operation → Trace ℕ ℕ → Trace ℕ ℕ
made_by (add amount) t = map_trace (plus amount) t
made_by even t = on_values (filter is_even) t
made_by twice t = transform_trace both t
made_by (take_first count) t = take_trace count t
made_by (drop_first count) t = on_values (drop count) t
made_by distinct t = on_values (distinct_after nat_eq None) t
made_by (catch caught) t = with_finale (catching (λ _. caught)) t
made_by (done value) t = with_finale (completing (λ _. Some value)) t
made_by (zip origin) t = zip_trace sum t (given origin)
made_by (combine origin) t = combine_trace sum t (given origin)
made_by (concat fault) t = joined (map (inner_of fault) t.0) t.1

-- all of a trace, where it has 10,000 values or less
abbrev pub bounded : Trace ℕ ℕ → Result (Trace ℕ ℕ) Stop
bounded t = if nat_lt 10000 (length t.0) then Err TooMany else Ok t

abbrev pub stop_in : Result (Trace ℕ ℕ) Stop → Option Stop
stop_in (Ok t) = None
stop_in (Err stop) = Some stop

-- why a stage stops, whatever came before it: it is refused, or a source of its own stops it
abbrev pub stop_of : Operation → Option Stop
stop_of (add amount) = None
stop_of even = None
stop_of twice = None
stop_of (take_first count) = if count == 0 then Some (Refused NotPositive) else None
stop_of (drop_first count) = None
stop_of distinct = None
stop_of (catch caught) = None
stop_of (done value) = None
stop_of (zip origin) = stop_in (bounded (given origin))
stop_of (combine origin) = stop_in (bounded (given origin))
stop_of (concat fault) = None

abbrev pub unless_stopped : Option Stop → Trace ℕ ℕ → Result (Trace ℕ ℕ) Stop
unless_stopped (Some stop) t = Err stop
unless_stopped None t = bounded t

-- what a stage comes to after what came before it
abbrev pub after_stage : Operation → Result (Trace ℕ ℕ) Stop → Result (Trace ℕ ℕ) Stop
after_stage operation (Ok t) = unless_stopped (stop_of operation) (made_by operation t)
after_stage operation (Err stop) = Err stop

abbrev pub after_stages : List Operation → Result (Trace ℕ ℕ) Stop → Result (Trace ℕ ℕ) Stop
after_stages [] came = came
after_stages (operation ∷ operations) came = after_stages operations (after_stage operation came)

-- WHAT A PIPE COMES TO
abbrev pub outcome_of : Pipe → Result (Trace ℕ ℕ) Stop
outcome_of pipe = after_stages pipe.operations (bounded (given pipe.origin))

-- the fault of an end
abbrev pub fault_in : Option (Cause ℕ) → Option ℕ
fault_in (Some (Failed fault)) = Some fault
fault_in other = None

abbrev pub answer_for : Result (Trace ℕ ℕ) Stop → Answer
answer_for (Ok t) = answers.Collected t.0 (fault_in t.1)
answer_for (Err (Refused refusal)) = answers.Refused refusal
answer_for (Err TooMany) = answers.TooMany

-- what a pipe answers, where memory was refused it or not
abbrev pub pipe_answer : Bool → Pipe → Answer
pipe_answer refused pipe = if refused then answers.Refused NoMemory else answer_for (outcome_of pipe)

-- the values, and how they end
abbrev pub trace_of : Gathered → Trace ℕ ℕ
trace_of gathered = ended_by gathered.values.items (cause_of gathered.fault)

-- this was gathered as it should be, or memory was refused
abbrev pub Comes : Result (Trace ℕ ℕ) Stop → Result Gathered Stop → Type 0
Comes expected (Ok gathered) = expected ≡ Ok (trace_of gathered)
Comes expected (Err stop) = (stop ≡ Refused NoMemory) ⊎ (expected ≡ Err stop)

-- whatever each of two flows has to give, what the two make together was gathered, or memory was refused
abbrev pub ComesOfBoth : Traces ℕ ℕ → Traces ℕ ℕ → (Trace ℕ ℕ → Trace ℕ ℕ → Trace ℕ ℕ) → Result Gathered Stop → Type 0
ComesOfBoth left right together result = (t u : Trace ℕ ℕ) → Fixes t left → Fixes u right → Comes (bounded (together t u)) result

-- it ends by a fault or finishes
abbrev pub IsEnded : Trace ℕ ℕ → Type 0
IsEnded t = (fault : Option ℕ) × (t.1 ≡ Some (cause_of fault))
