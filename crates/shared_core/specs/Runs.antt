-- A list of calls of the program, as a list of calls of the model.
use Rattle.std.specs.Prelude.{◌≡◌, List, [], ◌++◌, map}
use Rattle.shared_core.specs.declared.call.Call.{Call}
use Rattle.shared_core.specs.declared.call.Call.TheVariants as asked
use Rattle.shared_core.specs.declared.call.Reply.{Reply}
use Rattle.shared_core.specs.declared.call.Reply.TheVariants as told
use Rattle.shared_core.specs.Flow.{State}
use Rattle.shared_core.specs.Calls as model
use Rattle.shared_core.specs.Preludes.{prelude_values}
use Rattle.shared_core.specs.Shown.{Seen, Shows}

abbrev pub call_of : {T : Type 0} → Call T → model.Call T
call_of (asked.Try emitter v) = model.trying emitter v
call_of (asked.Start emitter v) = model.starting emitter v
call_of (asked.Poll ticket) = model.polling ticket.0
call_of (asked.Withdraw ticket) = model.withdrawing ticket.0
call_of asked.Subscribe = model.subscribing []
call_of (asked.SubscribeWith prelude) = model.subscribing (prelude_values prelude)
call_of (asked.Next id) = model.receiving id.0
call_of (asked.Cancel id) = model.cancelling id.0
call_of asked.Reset = model.resetting
call_of asked.Count = model.counting

abbrev pub reply_of : {T : Type 0} → Reply T → model.Reply T
reply_of (told.Tried answer) = model.to_try answer
reply_of (told.Begun answer) = model.to_start answer
reply_of (told.Emit answer) = model.to_poll answer
reply_of (told.Withdrawn answer) = model.to_withdraw answer
reply_of (told.Sub answer) = model.to_subscribe answer
reply_of (told.Next answer) = model.to_receive answer
reply_of (told.Cancelled answer) = model.to_cancel answer
reply_of told.Reset = model.to_reset
reply_of (told.Count answer) = model.to_count answer

-- On a state that shows M, the replies added are those of the model, and the state that is left shows the model after the calls.
abbrev pub Runs : {T : Type 0} → List (Call T) → Seen T → List (Reply T) → List (Reply T) → Seen T → Type 0
Runs {T} calls old before replied new =
    (M : State T) → Shows old M
    → (map reply_of replied ≡ map reply_of before ++ model.replies (map call_of calls) M) × Shows new (model.after (map call_of calls) M)
