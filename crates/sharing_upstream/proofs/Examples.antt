-- Worked examples, computed by the definition: the commands of some polls, the first one first.
use Rattle.std.proofs.Common.{◌≡◌, refl, ℕ, List, [], ◌∷◌, length, Some, None}
use Rattle.flow_terms.specs.declared.started.Started.{Started}
use Rattle.flow_terms.specs.declared.started.Started.TheVariants.{Eagerly, Lazily, WhileSubscribed, Custom}
use Rattle.flow_terms.specs.declared.plan.Entry.{Entry}
use Rattle.flow_terms.specs.declared.command.Command.{Command}
use Rattle.flow_terms.specs.declared.command.Command.TheVariants.{Start, Stop, StopAndReset}
use Rattle.sharing_upstream.specs.Strategies.{Look, commands}

abbrev look : ℕ → ℕ → Look
look moment count = record { moment = moment; count = count }

abbrev entry : ℕ → ℕ → ℕ → Command → Entry
entry at low high command = record { at = at; low = low; high = high; command = command }

abbrev plan : List Entry → Started
plan entries = Custom (record { entries = entries; count = length entries })

-- on while subscribed, off 100 after the last subscription, reset 50 later
while_subscribed : commands (WhileSubscribed 100 (Some 50))
    (look 0 0 ∷ look 10 1 ∷ look 20 1 ∷ look 1000 0 ∷ look 1099 0 ∷ look 1100 0 ∷ look 1149 0 ∷ look 1150 0 ∷ look 1150 1 ∷ [])
    ≡ None ∷ Some Start ∷ None ∷ None ∷ None ∷ Some Stop ∷ None ∷ Some StopAndReset ∷ Some Start ∷ []
while_subscribed = refl

-- a stop and a reset at once
at_once : commands (WhileSubscribed 0 (Some 0)) (look 5 1 ∷ look 6 0 ∷ look 7 0 ∷ look 7 2 ∷ look 7 0 ∷ [])
    ≡ Some Start ∷ Some StopAndReset ∷ None ∷ Some Start ∷ Some StopAndReset ∷ []
at_once = refl

-- no reset; a moment that goes back is the latest one
never_expires : commands (WhileSubscribed 0 None) (look 0 1 ∷ look 5 0 ∷ look 3 0 ∷ look 4 1 ∷ [])
    ≡ Some Start ∷ Some Stop ∷ None ∷ Some Start ∷ []
never_expires = refl

-- the stretch begins at 50, which is the latest moment where 40 is handed in
begins_late : commands (WhileSubscribed 10 (Some 5)) (look 50 1 ∷ look 40 0 ∷ look 59 0 ∷ look 60 0 ∷ look 64 0 ∷ look 65 0 ∷ look 99 0 ∷ [])
    ≡ Some Start ∷ None ∷ None ∷ Some Stop ∷ None ∷ Some StopAndReset ∷ None ∷ []
begins_late = refl

-- no subscription yet: nothing to stop and nothing to reset
nobody_came : commands (WhileSubscribed 0 (Some 0)) (look 0 0 ∷ look 100 0 ∷ []) ≡ None ∷ None ∷ []
nobody_came = refl

eagerly : commands Eagerly (look 0 0 ∷ look 1 1 ∷ look 2 0 ∷ []) ≡ Some Start ∷ None ∷ None ∷ []
eagerly = refl

lazily : commands Lazily (look 0 0 ∷ look 1 3 ∷ look 2 0 ∷ []) ≡ None ∷ Some Start ∷ None ∷ []
lazily = refl

-- at the end of the range of moments nothing wraps
at_the_end : commands (WhileSubscribed 18446744073709551615 (Some 18446744073709551615))
    (look 1 1 ∷ look 2 0 ∷ look 18446744073709551615 0 ∷ []) ≡ Some Start ∷ None ∷ None ∷ []
at_the_end = refl

-- each entry waits for its moment and for its count, the clearing one too, and one is taken in a poll
plan_of_commands : commands (plan (entry 10 1 8 Start ∷ entry 20 0 0 Stop ∷ entry 30 0 8 StopAndReset ∷ entry 30 0 8 Start ∷ []))
    (look 5 1 ∷ look 10 1 ∷ look 25 1 ∷ look 26 0 ∷ look 29 0 ∷ look 30 0 ∷ look 30 0 ∷ look 31 0 ∷ [])
    ≡ None ∷ Some Start ∷ None ∷ Some Stop ∷ None ∷ Some StopAndReset ∷ Some Start ∷ None ∷ []
plan_of_commands = refl

-- a repeated command does nothing
plan_repeats : commands (plan (entry 0 0 8 Start ∷ entry 0 0 8 Start ∷ [])) (look 0 0 ∷ look 0 0 ∷ [])
    ≡ Some Start ∷ None ∷ []
plan_repeats = refl

plan_for_state : commands (plan (entry 0 0 9 Start ∷ entry 0 0 9 StopAndReset ∷ [])) (look 0 0 ∷ look 0 0 ∷ [])
    ≡ Some Start ∷ Some StopAndReset ∷ []
plan_for_state = refl

-- a reset where sharing is off, and again after another command
clears_again : commands (plan (entry 0 0 8 StopAndReset ∷ entry 0 0 8 Stop ∷ entry 0 0 8 StopAndReset ∷ entry 0 0 8 StopAndReset ∷ []))
    (look 0 0 ∷ look 0 0 ∷ look 0 0 ∷ look 0 0 ∷ [])
    ≡ Some StopAndReset ∷ None ∷ Some StopAndReset ∷ None ∷ []
clears_again = refl

-- the first entry keeps the second from being taken before it; a moment that goes back is the latest one
in_order : commands (plan (entry 20 0 8 Start ∷ entry 10 0 8 Stop ∷ [])) (look 10 0 ∷ look 20 0 ∷ look 5 0 ∷ [])
    ≡ None ∷ Some Start ∷ Some Stop ∷ []
in_order = refl

-- without entries it is never on
no_entries : commands (plan []) (look 0 0 ∷ look 5 3 ∷ []) ≡ None ∷ None ∷ []
no_entries = refl
