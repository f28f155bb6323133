-- The values of preludes: the first values that a subscription with a prelude receives are of it, as many as it has.
use Rattle.std.specs.Prelude.{ℕ, ◌-◌, ◌==◌, List, length, Option, Some, None, bytes_eq, unwrap_or, if◌then◌else◌}
use Rattle.std.specs.HashMap.{get_by}
use Rattle.script_commands.specs.Commands.{Order, Joining}
use Rattle.script_commands.specs.Commands as commands
use Rattle.marble_marks.specs.declared.preludes.Preludes.{Preludes}
use Rattle.marble_marks.specs.declared.mark.Kind.{Kind}
use Rattle.marble_marks.specs.declared.mark.Kind.TheVariants as kinds
use Rattle.marble_marks.specs.declared.reply.Reply.{Reply}
use Rattle.marble_marks.specs.declared.reply.Reply.TheVariants as replies
use Rattle.marble_marks.specs.Happenings.{Event}
use Rattle.marble_marks.specs.Replies.{reply_of}
use Rattle.marble_marks.specs.AnsweredLines.{Asked}

-- ---- by the lines

-- a subscription of this name with a prelude of so many values, if any
abbrev pub if_any : List ℕ → ℕ → Option (List ℕ × ℕ)
if_any name count = if count == 0 then None else Some (name, count)

abbrev pub if_greeted : Reply → List ℕ → List ℕ → Option (List ℕ × ℕ)
if_greeted replies.Ok name prelude = if_any name (length prelude)
if_greeted _ name prelude = None

abbrev pub greeted_joined : List ℕ → Joining → Reply → Option (List ℕ × ℕ)
greeted_joined name (commands.subscription prelude) reply = if_greeted reply name prelude
greeted_joined name _ reply = None

abbrev pub greeted_by : Option Order → Reply → Option (List ℕ × ℕ)
greeted_by (Some (commands.join host name joiner)) reply = greeted_joined name joiner reply
greeted_by _ reply = None

-- the subscription that begins with a prelude by a line, if one does, and how many values that has
abbrev pub greeted_in : Asked → Option (List ℕ × ℕ)
greeted_in asked = greeted_by asked.order (reply_of asked.answer)

abbrev pub left_put : ℕ → List ℕ → Option (List ℕ × ℕ) → ℕ
left_put left name None = left
left_put left name (Some put) = if bytes_eq put.0 name then put.1 else left

abbrev pub left_received : ℕ → Kind → ℕ
left_received left (kinds.Received value) = left - 1
left_received left _ = left

abbrev pub left_shown : ℕ → List ℕ → Option Event → ℕ
left_shown left name None = left
left_shown left name (Some event) = if bytes_eq event.name name then left_received left event.kind else left

-- HOW MANY VALUES OF ITS PRELUDE the subscription of this name has still to take, after one more line, which shows this
abbrev pub left_after : ℕ → List ℕ → Option Event → Asked → ℕ
left_after left name shown asked = left_put (left_shown left name shown) name (greeted_in asked)

-- what is shown of a name, where it has so many values of its prelude still to take
abbrev pub kind_by : ℕ → Kind → Kind
kind_by left (kinds.Received value) = if left == 0 then kinds.Received value else kinds.FromPrelude value
kind_by left kind = kind

-- ---- as they are noted

abbrev pub left_of : Preludes → List ℕ → ℕ
left_of preludes name = unwrap_or (get_by (λ key. bytes_eq name key.now) preludes.left) 0
