-- What an operator holds that gives more than one value for a value of its source, and may end before it.
use Rattle.std.specs.Prelude.{◌+◌, ◌*◌, [], Option, Some, None}
use Rattle.std.specs.Iterator.{Count, at_most, count_map}
use Rattle.flow_terms.specs.declared.few.Few.{Few}
use Rattle.flow_terms.specs.Few.{values_of, few_len, split}
use Rattle.cold_flow.specs.declared.cause.Cause.{Cause}
use Rattle.cold_flow.specs.declared.cause.Cause.TheVariants.{Finished}
use Rattle.cold_flow.specs.declared.event.Event.{Event}
use Rattle.cold_flow.specs.declared.event.Event.TheVariants.{Value, End}
use Rattle.cold_flow.specs.declared.operators.closing.Closing.{Closing}
use Rattle.cold_flow.specs.declared.operators.closing.Closing.TheVariants.{Open, Last, Over}
use Rattle.cold_flow.specs.Trace.{Trace, ◌⊑◌, ended_by}
use Rattle.cold_flow.specs.Poll.{Traces, Through}
use Rattle.more_operators.specs.Retry.{behind}

-- What may come, where makes says what is made of the source's rest: what is held comes first. One that is closing gives what it
-- holds and then ends.
abbrev pub Holds : {A B E : Type 0} → (Trace A E → Trace B E) → Closing E → Few B → Traces A E → Traces B E
Holds makes Open held source t = Through (λ u. behind (values_of held) (makes u)) source t
Holds makes Last held source t = t ⊑ ended_by (values_of held) Finished
Holds makes (Over k) held source t = t ⊑ ended_by [] k

-- an end, where there is a cause
abbrev pub given_end : {B E : Type 0} → Option (Cause E) → Option (Event B E)
given_end None = None
given_end (Some k) = Some (End k)

-- what is given without a question to the source, if anything
abbrev pub first_event : {B E : Type 0} → Closing E → Option (B × Few B) → Option (Event B E)
first_event (Over k) parts = Some (End k)
first_event Open None = None
first_event Last None = Some (End Finished)
first_event Open (Some parts) = Some (Value parts.0)
first_event Last (Some parts) = Some (Value parts.0)

-- what is held then, and how it stands to its source
abbrev pub left_held : {B E : Type 0} → Closing E → Few B → Option (B × Few B) → Few B
left_held (Over k) held parts = held
left_held Open held None = held
left_held Last held None = held
left_held Open held (Some parts) = parts.1
left_held Last held (Some parts) = parts.1

abbrev pub left_closing : {B E : Type 0} → Closing E → Option (B × Few B) → Closing E
left_closing (Over k) parts = Over k
left_closing Open parts = Open
left_closing Last None = Over Finished
left_closing Last (Some parts) = Last

-- the polls left: what is held, four for each value of the source, and four for its end
abbrev pub held_polls : {B E : Type 0} → Closing E → Few B → Count → Count
held_polls Open held source = count_map (λ n. 4 * n + few_len held + 4) source
held_polls Last held source = at_most (few_len held)
held_polls (Over k) held source = at_most 0
