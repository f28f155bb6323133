-- What a command and its answer show, and for whom.
use Rattle.std.specs.Prelude.{ℕ, List, Option, Some, None}
use Rattle.std.specs.Option.{option_map}
use Rattle.script_commands.specs.declared.request.Request.{Request}
use Rattle.script_commands.specs.declared.request.Request.TheVariants as requested
use Rattle.script_commands.specs.Commands.{Order, Made, Joining}
use Rattle.script_commands.specs.Commands as commands
use Rattle.marble_marks.specs.declared.happening.Happening.{Happening}
use Rattle.marble_marks.specs.declared.mark.Kind.{Kind}
use Rattle.marble_marks.specs.declared.mark.Kind.TheVariants as kinds
use Rattle.marble_marks.specs.declared.mark.Row.{Row}
use Rattle.marble_marks.specs.declared.mark.Row.TheVariants as rows
use Rattle.marble_marks.specs.declared.reply.Reply.{Reply}
use Rattle.marble_marks.specs.declared.reply.Reply.TheVariants as replies

-- what happened to what this name stands for
pub record Event : Type 0 where
  pub name : List ℕ
  pub kind : Kind

abbrev pub event : List ℕ → Kind → Event
event name kind = record { name = name; kind = kind }

abbrev pub happening_in : Happening → Event
happening_in happening = event happening.name.now happening.kind

abbrev pub row_made : Made → Row
row_made (commands.shared replay extra policy) = rows.Flow
row_made (commands.state value) = rows.State value
row_made (commands.buffer capacity policy origin) = rows.Buffer
row_made (commands.share replay extra policy started origin) = rows.Flow
row_made (commands.stated value started origin) = rows.State value

-- where something was made or joined
abbrev pub if_made : Reply → Event → Option Event
if_made replies.Ok event = Some event
if_made _ event = None

abbrev pub emits : List ℕ → List ℕ → ℕ → Reply → Option Event
emits host name value replies.Accepted = Some (event host (kinds.Accepted value))
emits host name value replies.Dropped = Some (event host (kinds.Dropped value))
emits host name value replies.Waiting = Some (event name (kinds.Begun (rows.Ticket value)))
emits host name value _ = None

abbrev pub joins : List ℕ → List ℕ → Joining → Reply → Option Event
joins host name (commands.subscription prelude) reply = if_made reply (event name (kinds.Begun rows.Subscription))
joins host name commands.collector reply = if_made reply (event name (kinds.Begun rows.Collector))
joins host name (commands.emission value) reply = emits host name value reply

-- any answer but that of a bad line
abbrev pub said : Reply → Option Kind
said (replies.Bad reason) = None
said _ = Some kinds.Said

abbrev pub next_kind : Reply → Option Kind
next_kind (replies.Value value) = Some (kinds.Received value)
next_kind replies.Pending = Some kinds.Nothing
next_kind reply = said reply

abbrev pub ticket_kind : Reply → Option Kind
ticket_kind replies.Waiting = Some kinds.Waiting
ticket_kind replies.Done = Some kinds.Done
ticket_kind replies.Removed = Some kinds.Removed
ticket_kind replies.Left = Some kinds.Left
ticket_kind replies.Gone = Some kinds.Gone
ticket_kind _ = None

abbrev pub value_kind : Reply → Option Kind
value_kind (replies.Value value) = Some (kinds.Holds value)
value_kind reply = said reply

abbrev pub try_kind : ℕ → Reply → Option Kind
try_kind value replies.Accepted = Some (kinds.Accepted value)
try_kind value replies.Dropped = Some (kinds.Dropped value)
try_kind value replies.Full = Some (kinds.Full value)
try_kind value reply = said reply

abbrev pub cancel_kind : Reply → Option Kind
cancel_kind replies.Ok = Some kinds.Cancelled
cancel_kind reply = said reply

abbrev pub set_kind : ℕ → Reply → Option Kind
set_kind value replies.Ok = Some (kinds.Set value)
set_kind value reply = said reply

abbrev pub compare_kind : ℕ → Reply → Option Kind
compare_kind value replies.True = Some (kinds.Set value)
compare_kind value reply = said reply

-- a tick that is answered `off` takes nothing
abbrev pub tick_kind : Reply → Option Kind
tick_kind replies.On = Some kinds.Ticked
tick_kind replies.Failed = Some kinds.Ticked
tick_kind reply = said reply

abbrev pub asks : Request → Reply → Option Kind
asks requested.Next reply = next_kind reply
asks requested.Cancel reply = cancel_kind reply
asks requested.Count reply = said reply
asks requested.Cache reply = said reply
asks requested.Reset reply = said reply
asks requested.Fill reply = said reply
asks requested.Poll reply = ticket_kind reply
asks requested.Withdraw reply = ticket_kind reply
asks requested.Value reply = value_kind reply
asks (requested.Try value) reply = try_kind value reply
asks (requested.Set value) reply = set_kind value reply
asks (requested.CompareAndSet expect value) reply = compare_kind value reply
asks (requested.Tick moment) reply = tick_kind reply

-- WHAT A COMMAND WITH THIS REPLY SHOWS, and for whom
abbrev pub happening_of : Order → Reply → Option Event
happening_of (commands.make name made) reply = if_made reply (event name (kinds.Begun (row_made made)))
happening_of (commands.join host name joiner) reply = joins host name joiner reply
happening_of (commands.ask name request) reply = option_map (λ kind. event name kind) (asks request reply)
happening_of (commands.cold pipe) reply = None
