-- What a line does to values, as far as more is told by it than by its own answer.
use Rattle.std.specs.Prelude.{ℕ, List, length, Option, Some, None}
use Rattle.script_commands.specs.declared.request.Request.{Request}
use Rattle.script_commands.specs.declared.request.Request.TheVariants as requested
use Rattle.script_commands.specs.Commands.{Order, Made, Joining}
use Rattle.script_commands.specs.Commands as commands
use Rattle.marble_marks.specs.declared.deed.Act.{Act}
use Rattle.marble_marks.specs.declared.deed.Deed.{Deed}
use Rattle.marble_marks.specs.declared.deed.Deed.TheVariants as deeds
use Rattle.marble_marks.specs.declared.reply.Reply.{Reply}
use Rattle.marble_marks.specs.declared.reply.Reply.TheVariants as replies
use Rattle.marble_marks.specs.Replies.{reply_of}
use Rattle.marble_marks.specs.AnsweredLines.{Asked}

-- what a line does, its names as bytes
pub data Doing : Type 0 where
  -- a shared flow begins, with so many values for newcomers, and so many more that may be pending
  opens : List ℕ → ℕ → ℕ → Doing
  -- a flow accepts a value at once
  accepts : List ℕ → ℕ → Doing
  -- an emission on a flow, its ticket, has to wait with its value
  waits : List ℕ → List ℕ → ℕ → Doing
  -- an emission that had to wait is taken back
  removes : List ℕ → Doing
  -- a state begins with a value
  begins : List ℕ → ℕ → Doing
  -- a state is set to a value
  sets : List ℕ → ℕ → Doing
  -- a guest joins a flow or a state, with a prelude of so many values
  joins : List ℕ → List ℕ → ℕ → Doing
  -- a guest receives a value
  takes : List ℕ → Doing
  -- a guest ends
  ends : List ℕ → Doing
  -- a flow's replay cache is emptied
  empties : List ℕ → Doing
  nothing : Doing

abbrev pub doing_in : Deed → Doing
doing_in (deeds.Opens host replay extra) = opens host.now replay extra
doing_in (deeds.Accepts host value) = accepts host.now value
doing_in (deeds.Waits host ticket value) = waits host.now ticket.now value
doing_in (deeds.Removes ticket) = removes ticket.now
doing_in (deeds.Begins host value) = begins host.now value
doing_in (deeds.Sets host value) = sets host.now value
doing_in (deeds.Joins host guest prelude) = joins host.now guest.now prelude
doing_in (deeds.Takes guest) = takes guest.now
doing_in (deeds.Ends guest) = ends guest.now
doing_in (deeds.Empties host) = empties host.now
doing_in deeds.Nothing = nothing

-- where a call was answered so
abbrev pub if_ok : Reply → Doing → Doing
if_ok replies.Ok doing = doing
if_ok _ doing = nothing

abbrev pub if_true : Reply → Doing → Doing
if_true replies.True doing = doing
if_true _ doing = nothing

abbrev pub if_accepted : Reply → Doing → Doing
if_accepted replies.Accepted doing = doing
if_accepted _ doing = nothing

abbrev pub if_value : Reply → Doing → Doing
if_value (replies.Value value) doing = doing
if_value _ doing = nothing

abbrev pub emitting : List ℕ → List ℕ → ℕ → Reply → Doing
emitting host ticket value replies.Accepted = accepts host value
emitting host ticket value replies.Waiting = waits host ticket value
emitting host ticket value _ = nothing

abbrev pub withdrawing : List ℕ → Reply → Doing
withdrawing ticket replies.Removed = removes ticket
withdrawing ticket _ = nothing

abbrev pub making : List ℕ → Made → Reply → Doing
making name (commands.shared replay extra policy) reply = if_ok reply (opens name replay extra)
making name (commands.state value) reply = if_ok reply (begins name value)
making name _ reply = nothing

abbrev pub joining : List ℕ → List ℕ → Joining → Reply → Doing
joining host name (commands.subscription prelude) reply = if_ok reply (joins host name (length prelude))
joining host name commands.collector reply = if_ok reply (joins host name 0)
joining host name (commands.emission value) reply = emitting host name value reply

abbrev pub asking : List ℕ → Request → Reply → Doing
asking name (requested.Try value) reply = if_accepted reply (accepts name value)
asking name (requested.Set value) reply = if_ok reply (sets name value)
asking name (requested.CompareAndSet expect value) reply = if_true reply (sets name value)
asking name requested.Next reply = if_value reply (takes name)
asking name requested.Cancel reply = if_ok reply (ends name)
asking name requested.Reset reply = if_ok reply (empties name)
asking name requested.Withdraw reply = withdrawing name reply
asking name _ reply = nothing

-- WHAT A COMMAND with this reply DOES
abbrev pub doing_of : Option Order → Reply → Doing
doing_of None reply = nothing
doing_of (Some (commands.make name made)) reply = making name made reply
doing_of (Some (commands.join host name joiner)) reply = joining host name joiner reply
doing_of (Some (commands.ask name request)) reply = asking name request reply
doing_of (Some (commands.cold pipe)) reply = nothing

-- what a line does, and in which column that is shown
pub record Done : Type 0 where
  pub column : ℕ
  pub doing : Doing

abbrev pub done : ℕ → Doing → Done
done column doing = record { column = column; doing = doing }

abbrev pub done_in : Act → Done
done_in act = done act.column (doing_in act.deed)

abbrev pub done_by : Asked → Done
done_by asked = done asked.column (doing_of asked.order (reply_of asked.answer))
