-- Operators that may end before their source, or after it.
use Rattle.std.specs.Prelude.{Bool, true, false, not, ◌+◌, [], Option, Some, None}
use Rattle.std.specs.Iterator.{Count, at_most, count_map}
use Rattle.cold_flow.specs.declared.cause.Cause.{Cause}
use Rattle.cold_flow.specs.declared.cause.Cause.TheVariants.{Finished, Failed, Cancelled, Refused}
use Rattle.cold_flow.specs.declared.operators.closing.Closing.{Closing}
use Rattle.cold_flow.specs.declared.operators.closing.Closing.TheVariants.{Open, Last, Over}
use Rattle.cold_flow.specs.Trace.{◌⊑◌, ended_by}
use Rattle.cold_flow.specs.Poll.{Traces}

-- the cause that a poll gives without asking the source, and what it leaves
abbrev pub answer : {E : Type 0} → Closing E → Option (Cause E)
answer Open = None
answer Last = Some Finished
answer (Over k) = Some k

abbrev pub answered : {E : Type 0} → Closing E → Closing E
answered Open = Open
answered Last = Over Finished
answered (Over k) = Over k

-- what a cancellation leaves
abbrev pub cancelled : {E : Type 0} → Closing E → Closing E
cancelled Open = Over Cancelled
cancelled Last = Over Cancelled
cancelled (Over k) = Over k

-- the cause that was given
abbrev pub given_cause : {E : Type 0} → Closing E → Option (Cause E)
given_cause Open = None
given_cause Last = None
given_cause (Over k) = Some k

-- what may come, where going says what may come while the operator follows its source
abbrev pub Following : {A E : Type 0} → Closing E → Traces A E → Traces A E
Following Open going t = going t
Following Last going t = t ⊑ ended_by [] Finished
Following (Over k) going t = t ⊑ ended_by [] k

-- one poll more than those of a source
abbrev pub and_one : Count → Count
and_one = count_map (λ n. n + 1)

-- the polls left, of which one may come after those of the source
abbrev pub polls_left : {E : Type 0} → Closing E → Count → Count
polls_left Open source = and_one source
polls_left Last source = at_most 0
polls_left (Over k) source = at_most 0

abbrev pub is_open : {E : Type 0} → Closing E → Bool
is_open Open = true
is_open Last = false
is_open (Over k) = false

-- whether an operator that gave a last value of its own, or gave none, can stand so
abbrev pub is_after : {E : Type 0} → Bool → Closing E → Bool
is_after last_given Open = not last_given
is_after last_given Last = last_given
is_after last_given (Over Finished) = true
is_after last_given (Over (Failed e)) = not last_given
is_after last_given (Over Cancelled) = true
is_after last_given (Over (Refused r)) = not last_given

-- the cause that an action at the end was told
abbrev pub told_cause : {E : Type 0} → Bool → Closing E → Option (Cause E)
told_cause true closing = Some Finished
told_cause false closing = given_cause closing

-- whether no poll answers pending, where source says so of the source
abbrev pub is_prompt : {E : Type 0} → Closing E → Bool → Bool
is_prompt Open source = source
is_prompt Last source = true
is_prompt (Over k) source = true
