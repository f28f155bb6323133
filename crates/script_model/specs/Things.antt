-- What a script makes, as its model has it, and what each kind of it answers.
use Rattle.std.specs.Prelude.{ℕ, Bool, true, false, Option, Some, None, Err}
use Rattle.flow_buffer.specs.Capacity.{refused_capacity}
use Rattle.flow_terms.specs.declared.refusal.Refusal.{Refusal}
use Rattle.flow_terms.specs.declared.refusal.Refusal.TheVariants.{NoMemory}
use Rattle.shared_core.specs.Calls as calls
use Rattle.shared_core.specs.Flow.{State, empty}
use Rattle.shared_core.specs.Flow as flows
use Rattle.shared_core.specs.Kept.{making_refusal, parameters_of}
use Rattle.script_commands.specs.declared.answer.Answer.{Answer}
use Rattle.script_commands.specs.declared.answer.Answer.TheVariants as answers
use Rattle.script_commands.specs.declared.part.Part.{Part}
use Rattle.script_commands.specs.declared.part.Part.TheVariants.{Whole, Subscription, InFlight, Finished}
use Rattle.script_commands.specs.declared.request.Request.{Request}
use Rattle.script_commands.specs.declared.request.Request.TheVariants as requests
use Rattle.script_commands.specs.Commands.{Made, Joining}
use Rattle.script_commands.specs.Commands as commands
use Rattle.script_commands.specs.Parts.{subscription_in, emission_in}
use Rattle.script_commands.specs.Replies.{try_answer, emit_answer, poll_answer, withdraw_answer, subscribe_answer, next_answer, cancel_answer}
use Rattle.script_engines.specs.Preludes.{subscribed}
use Rattle.script_run.specs.Buffered.{ask_buffer}
use Rattle.script_run.specs.Buffers.{Buffering, begun}
use Rattle.script_run.specs.Replied.{Joined}
use Rattle.script_engines.specs.Keeping as states
use Rattle.script_words.specs.Starts.{start_refusal}
use Rattle.flow_script.specs.Makers.{config_of}
use Rattle.script_model.specs.Findings.{Finding, was_refused, has_waited, said_in, took_in}

pub data Thing : Type 0 where
  -- a shared flow: the state of its model
  flow : State ℕ → Thing
  -- a buffer, with what its source gives still
  buffer : Buffering → Thing
  -- a state: the values that it had, and what each of its collectors was given
  state : states.Kept → Thing
  -- what shares a source: what it answers isn't told by this model
  untold : Thing

-- ---- what is made

-- one reason before another
abbrev pub first_reason : Option Refusal → Option Refusal → Option Refusal
first_reason None later = later
first_reason (Some refusal) later = Some refusal

-- why nothing can be made with these words: the plan of a start comes first
abbrev pub reason_against : Made → Option Refusal
reason_against (commands.shared replay extra policy) = making_refusal (config_of replay extra policy)
reason_against (commands.state value) = None
reason_against (commands.buffer capacity policy origin) = refused_capacity capacity
reason_against (commands.share replay extra policy starting origin) = first_reason (start_refusal starting) (making_refusal (config_of replay extra policy))
reason_against (commands.stated value starting origin) = start_refusal starting

-- why it isn't made: for its words, or else for want of memory, or not at all
abbrev pub refusal_by : Option Refusal → Bool → Option Refusal
refusal_by (Some refusal) lacked = Some refusal
refusal_by None true = Some NoMemory
refusal_by None false = None

abbrev pub thing_of : Made → Thing
thing_of (commands.shared replay extra policy) = flow (empty (parameters_of (config_of replay extra policy)))
thing_of (commands.buffer capacity policy origin) = buffer (begun capacity policy origin)
thing_of (commands.state value) = state (states.begun value)
thing_of (commands.share replay extra policy starting origin) = untold
thing_of (commands.stated value starting origin) = untold

-- ---- what is asked: the answer, and what stands after it. Without an answer it is no command for that part, and nothing changes

-- a call's reply is the answer
abbrev pub replied : {R S : Type 0} → (R → Answer) → R × S → Option Answer × S
replied answer_of came = (Some (answer_of came.0), came.1)

abbrev pub ask_flow : Part → Request → State ℕ → Option Answer × State ℕ
ask_flow Whole (requests.Try value) M = replied try_answer (calls.try_emit 0 value M)
ask_flow Whole requests.Reset M = (Some answers.Ok, calls.reset M)
ask_flow Whole requests.Cache M = (Some (answers.Values (flows.cache M)), M)
ask_flow Whole requests.Count M = (Some (answers.Number (flows.live_count M)), M)
ask_flow (Subscription id) requests.Next M = replied next_answer (calls.next_value id.0 M)
ask_flow (Subscription id) requests.Cancel M = replied cancel_answer (calls.cancel id.0 M)
ask_flow (InFlight ticket) requests.Poll M = replied poll_answer (calls.poll_emit ticket.0 M)
ask_flow (InFlight ticket) requests.Withdraw M = replied withdraw_answer (calls.cancel_emit ticket.0 M)
-- an emission that was finished at once is known no more
ask_flow Finished requests.Poll M = (Some answers.Gone, M)
ask_flow Finished requests.Withdraw M = (Some answers.Gone, M)
ask_flow part request M = (None, M)

abbrev pub ask_state : Part → Request → states.Kept → Option Answer × states.Kept
ask_state Whole requests.Value kept = (Some (answers.Value (states.standing kept)), kept)
ask_state Whole (requests.Set value) kept = (Some answers.Ok, states.written value kept)
ask_state Whole (requests.CompareAndSet expect update) kept = replied answers.Truth (states.compared expect update kept)
ask_state Whole requests.Count kept = (Some (answers.Number (states.collector_count kept)), kept)
ask_state (Subscription id) requests.Next kept = replied next_answer (states.next_value id.0 kept)
ask_state (Subscription id) requests.Cancel kept = replied cancel_answer (states.cancelled id.0 kept)
ask_state part request kept = (None, kept)

-- what came of what a thing holds came of the thing
abbrev pub as_thing : {R S : Type 0} → (S → Thing) → R × S → R × Thing
as_thing kind came = (came.0, kind came.1)

-- WHAT A THING ANSWERS to a command to this part of it
abbrev pub ask : Finding → Part → Request → Thing → Option Answer × Thing
ask finding part request (flow M) = as_thing flow (ask_flow part request M)
ask finding part request (buffer held) = as_thing buffer (ask_buffer part request (has_waited finding) held)
ask finding part request (state kept) = as_thing state (ask_state part request kept)
ask finding part request untold = (said_in finding, untold)

-- ---- who joins: the answer with what the party's name is, if anything was made. Nothing where that part takes no such party

abbrev pub joined : {R S : Type 0} → (R → Answer) → (R → Option Part) → R × S → Option Joined × S
joined answer_of part_of came = (Some (answer_of came.0, part_of came.0), came.1)

abbrev pub join_flow : Part → Joining → State ℕ → Option Joined × State ℕ
join_flow Whole (commands.subscription numbers) M = joined subscribe_answer subscription_in (subscribed numbers M)
join_flow Whole (commands.emission value) M = joined emit_answer emission_in (calls.start_emit 0 value M)
join_flow part joining M = (None, M)

-- by whether memory was refused
abbrev pub join_state : Bool → Part → Joining → states.Kept → Option Joined × states.Kept
join_state true Whole commands.collector kept = joined subscribe_answer subscription_in (Err NoMemory, kept)
join_state false Whole commands.collector kept = joined subscribe_answer subscription_in (states.collected kept)
join_state lacked part joining kept = (None, kept)

-- WHAT A THING ANSWERS to a party that joins this part of it
abbrev pub join : Finding → Part → Joining → Thing → Option Joined × Thing
join finding part joining (flow M) = as_thing flow (join_flow part joining M)
join finding part joining (buffer held) = (None, buffer held)
join finding part joining (state kept) = as_thing state (join_state (was_refused finding) part joining kept)
join finding part joining untold = (took_in finding, untold)
