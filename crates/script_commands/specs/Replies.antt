-- What a command answers, by what its call on a flow replied.
use Rattle.std.specs.Prelude.{ℕ, Bool, true, false, List, Result, Ok, Err}
use Rattle.futures.specs.declared.task.Poll.{Poll}
use Rattle.futures.specs.declared.task.Poll.TheVariants as polls
use Rattle.cold_flow.specs.declared.cause.Cause.TheVariants as causes
use Rattle.cold_flow.specs.declared.event.Event.{Event}
use Rattle.cold_flow.specs.declared.event.Event.TheVariants as events
use Rattle.flow_terms.specs.declared.refusal.Refusal.{Refusal}
use Rattle.flow_terms.specs.declared.fill.Fill.{Fill}
use Rattle.flow_terms.specs.declared.fill.Fill.TheVariants as fills
use Rattle.flow_terms.specs.declared.ids.SubId.{SubId}
use Rattle.flow_terms.specs.declared.ids.Ticket.{Ticket}
use Rattle.flow_terms.specs.declared.answers.Tried.{Tried}
use Rattle.flow_terms.specs.declared.answers.Tried.TheVariants as tried
use Rattle.flow_terms.specs.declared.answers.Begun.{Begun}
use Rattle.flow_terms.specs.declared.answers.Begun.TheVariants as begun
use Rattle.flow_terms.specs.declared.answers.Emit.{Emit}
use Rattle.flow_terms.specs.declared.answers.Emit.TheVariants as emit
use Rattle.flow_terms.specs.declared.answers.Withdrawn.{Withdrawn}
use Rattle.flow_terms.specs.declared.answers.Withdrawn.TheVariants as withdrawn
use Rattle.flow_terms.specs.declared.answers.Next.{Next}
use Rattle.flow_terms.specs.declared.answers.Next.TheVariants as next
use Rattle.script_calls.specs.declared.ticked.Ticked.{Ticked}
use Rattle.script_calls.specs.declared.ticked.Ticked.TheVariants as ticks
use Rattle.script_commands.specs.declared.answer.Answer.{Answer}
use Rattle.script_commands.specs.declared.answer.Answer.TheVariants as answers

abbrev pub try_answer : Result (Tried ℕ) Refusal → Answer
try_answer (Ok (tried.Accepted number)) = answers.Accepted
try_answer (Ok tried.Dropped) = answers.Dropped
try_answer (Ok tried.Full) = answers.Full
try_answer (Err refusal) = answers.Refused refusal

abbrev pub emit_answer : Result (Begun ℕ Ticket) Refusal → Answer
emit_answer (Ok (begun.Accepted number)) = answers.Accepted
emit_answer (Ok begun.Dropped) = answers.Dropped
emit_answer (Ok (begun.Waiting ticket)) = answers.Waiting
emit_answer (Err refusal) = answers.Refused refusal

abbrev pub poll_answer : Emit → Answer
poll_answer (emit.Done number) = answers.Done
poll_answer emit.Waiting = answers.Waiting
poll_answer emit.Gone = answers.Gone

abbrev pub withdraw_answer : Withdrawn ℕ → Answer
withdraw_answer withdrawn.Removed = answers.Removed
withdraw_answer (withdrawn.Left number) = answers.Left
withdraw_answer withdrawn.Gone = answers.Gone

abbrev pub subscribe_answer : Result SubId Refusal → Answer
subscribe_answer (Ok id) = answers.Ok
subscribe_answer (Err refusal) = answers.Refused refusal

abbrev pub next_answer : Next ℕ → Answer
next_answer (next.Value value) = answers.Value value
next_answer next.Nothing = answers.Pending
next_answer next.Closed = answers.Closed

abbrev pub cancel_answer : Bool → Answer
cancel_answer true = answers.Ok
cancel_answer false = answers.Closed

abbrev pub fill_answer : Fill → Answer
fill_answer fills.Took = answers.Took
fill_answer fills.Overwrote = answers.Overwrote
fill_answer fills.Dropped = answers.Dropped
fill_answer fills.Full = answers.Full
fill_answer fills.Pending = answers.Pending
fill_answer fills.Ended = answers.Ended

-- a source of a script finishes or fails, so no other end comes
abbrev pub take_answer : Poll (Event ℕ ℕ) → Answer
take_answer (polls.Ready (events.Value value)) = answers.Value value
take_answer (polls.Ready (events.End causes.Finished)) = answers.Finished
take_answer (polls.Ready (events.End (causes.Failed fault))) = answers.Failed fault
take_answer (polls.Ready (events.End causes.Cancelled)) = answers.Closed
take_answer (polls.Ready (events.End (causes.Refused refusal))) = answers.Refused refusal
take_answer polls.Pending = answers.Pending

-- the values of a replay cache
abbrev pub cache_answer : Result (List ℕ) Refusal → Answer
cache_answer (Ok values) = answers.Values values
cache_answer (Err refusal) = answers.Refused refusal

abbrev pub tick_answer : Ticked → Answer
tick_answer ticks.On = answers.On
tick_answer ticks.Off = answers.Off
tick_answer (ticks.Failed fault) = answers.Failed fault
tick_answer (ticks.Refused refusal) = answers.Refused refusal
