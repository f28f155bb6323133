-- The flows of emissions that were finished at once. Such an emission has no row: what is answered of it later stands on its flow's.
use Rattle.std.specs.Prelude.{ℕ, List, Option, Some, None, bytes_eq, unwrap_or, if◌then◌else◌}
use Rattle.std.specs.Option.{option_map}
use Rattle.std.specs.HashMap.{get_by}
use Rattle.script_commands.specs.Commands.{Order, Joining}
use Rattle.script_commands.specs.Commands as commands
use Rattle.marble_marks.specs.declared.homes.Homes.{Homes}
use Rattle.marble_marks.specs.declared.mark.Kind.{Kind}
use Rattle.marble_marks.specs.declared.mark.Kind.TheVariants as kinds
use Rattle.marble_marks.specs.declared.reply.Reply.{Reply}
use Rattle.marble_marks.specs.declared.reply.Reply.TheVariants as replies
use Rattle.marble_marks.specs.Replies.{reply_of}
use Rattle.marble_marks.specs.AnsweredLines.{Asked}

-- ---- by the lines

-- an emission that was accepted or dropped at once, by its name, and its flow
abbrev pub if_at_once : Reply → List ℕ → List ℕ → Option (List ℕ × List ℕ)
if_at_once replies.Accepted ticket host = Some (ticket, host)
if_at_once replies.Dropped ticket host = Some (ticket, host)
if_at_once _ ticket host = None

abbrev pub home_joined : List ℕ → List ℕ → Joining → Reply → Option (List ℕ × List ℕ)
home_joined host name (commands.emission value) reply = if_at_once reply name host
home_joined host name _ reply = None

abbrev pub home_by : Option Order → Reply → Option (List ℕ × List ℕ)
home_by (Some (commands.join host name joiner)) reply = home_joined host name joiner reply
home_by _ reply = None

-- the emission that a line finishes at once, if it does, and its flow
abbrev pub home_in : Asked → Option (List ℕ × List ℕ)
home_in asked = home_by asked.order (reply_of asked.answer)

abbrev pub home_put : Option (List ℕ) → List ℕ → Option (List ℕ × List ℕ) → Option (List ℕ)
home_put home ticket None = home
home_put home ticket (Some put) = if bytes_eq put.0 ticket then Some put.1 else home

-- THE FLOW of the emission of this name, if it was finished at once, after one more line
abbrev pub home_after : Option (List ℕ) → List ℕ → Asked → Option (List ℕ)
home_after home ticket asked = home_put home ticket (home_in asked)

-- the name on whose row something of a name is shown
abbrev pub name_by : Option (List ℕ) → List ℕ → Kind → List ℕ
name_by home name kinds.Gone = unwrap_or home name
name_by home name _ = name

-- ---- as they are noted

abbrev pub home_of : Homes → List ℕ → Option (List ℕ)
home_of homes ticket = option_map (λ host. host.now) (get_by (λ key. bytes_eq ticket key.now) homes.noted)
