-- What a poll commands: a sharing is never on where a reset falls, and one poll more commands one thing more.
use Rattle.std.proofs.Common.{◌≡◌, refl, Bool, true, false, not, ◌&&◌, ◌||◌, List, [], ◌∷◌, ◌++◌, reverse, Option, Some, None, ap, arith}
use Rattle.std.proofs.lemmas.List.{reverse-append}
use mathlib.Core.List.{reverse_aux}
use Rattle.flow_terms.specs.declared.started.Started.{Started}
use Rattle.flow_terms.specs.declared.started.Started.TheVariants.{Eagerly, Lazily, WhileSubscribed, Custom}
use Rattle.flow_terms.specs.declared.command.Command.{Command}
use Rattle.flow_terms.specs.declared.command.Command.TheVariants.{Start, Stop, StopAndReset}
use Rattle.sharing_upstream.specs.Strategies.{Look, History, command_by, command, commands, commands_after, resets, starts, is_on, is_reset, is_first_due, is_cleared, entries_in, last_taken}
use Rattle.flow_terms.specs.Plans.{entries_of}

due_is_off : (started : Started) (history : History) → is_first_due started history ≡ true → is_on started history ≡ false
due_is_off started [] h = refl
due_is_off Eagerly (look ∷ earlier) h = grind arith
due_is_off Lazily (look ∷ earlier) h = grind arith
due_is_off (WhileSubscribed stop None) (look ∷ earlier) h = grind arith
due_is_off (WhileSubscribed stop (Some expire)) (look ∷ earlier) h = grind arith
due_is_off (Custom plan) (look ∷ earlier) h = grind arith

-- where the command before was the same, nothing is cleared
unchanged : (cleared on : Bool) → (cleared && not cleared) ≡ true → on ≡ false
unchanged true on h = let wrong = h in cc
unchanged false on h = let wrong = h in cc

clears_off : (last : Option Command) (was_cleared : Bool) → (resets last && not was_cleared) ≡ true → starts last ≡ false
clears_off None was_cleared h = refl
clears_off (Some Start) was_cleared h = let wrong = h in cc
clears_off (Some Stop) was_cleared h = refl
clears_off (Some StopAndReset) was_cleared h = refl

cleared_is_off : (started : Started) (history : History) → is_cleared (entries_in started) history ≡ true → is_on started history ≡ false
cleared_is_off started [] h = refl
cleared_is_off Eagerly (look ∷ earlier) h = unchanged (resets (last_taken [] earlier)) true h
cleared_is_off Lazily (look ∷ earlier) h = unchanged (resets (last_taken [] earlier)) (is_on Lazily (look ∷ earlier)) h
cleared_is_off (WhileSubscribed stop expire) (look ∷ earlier) h =
    unchanged (resets (last_taken [] earlier)) (is_on (WhileSubscribed stop expire) (look ∷ earlier)) h
cleared_is_off (Custom plan) (look ∷ earlier) h =
    clears_off (last_taken (entries_of plan) (look ∷ earlier)) (resets (last_taken (entries_of plan) earlier)) h

by_either : (due cleared on : Bool) → (due ≡ true → on ≡ false) → (cleared ≡ true → on ≡ false) → (due || cleared) ≡ true → on ≡ false
by_either true cleared on by_due by_cleared h = by_due refl
by_either false cleared on by_due by_cleared h = by_cleared h

pub reset_is_off : (started : Started) (history : History) → is_reset started history ≡ true → is_on started history ≡ false
reset_is_off started history h =
    by_either (is_first_due started history) (is_cleared (entries_in started) history) (is_on started history) (due_is_off started history) (cleared_is_off started history) h

by_reset : (was_on on reset : Bool) → (reset ≡ true → on ≡ false) → resets (command_by was_on on reset) ≡ reset
by_reset was_on on reset h = grind arith

pub resets-command : (started : Started) (history : History) → resets (command started history) ≡ is_reset started history
resets-command started [] = refl
resets-command started (look ∷ earlier) = by_reset _ _ _ (reset_is_off started (look ∷ earlier))

-- one poll more commands one thing more
commands_after_more : (started : Started) (earlier : History) (looks : List Look) (look : Look)
    → commands_after started earlier (looks ++ look ∷ []) ≡ commands_after started earlier looks ++ command started (look ∷ reverse_aux looks earlier) ∷ []
commands_after_more started earlier [] look = refl
commands_after_more started earlier (first ∷ looks) look =
    ap (λ (rest : List (Option Command)). command started (first ∷ earlier) ∷ rest) (commands_after_more started (first ∷ earlier) looks look)

pub commands-more : (started : Started) (looks : List Look) (look : Look)
    → commands started (looks ++ look ∷ []) ≡ commands started looks ++ command started (look ∷ reverse looks) ∷ []
commands-more started looks look = commands_after_more started [] looks look

pub reverse-more : (looks : List Look) (look : Look) → reverse (looks ++ look ∷ []) ≡ look ∷ reverse looks
reverse-more looks look = reverse-append looks (look ∷ [])
