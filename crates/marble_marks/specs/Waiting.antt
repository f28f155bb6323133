-- Emissions that had to wait, and lines that tell of them.
use Rattle.std.specs.Prelude.{ℕ, Bool, true, false, List, [], ◌∷◌, bytes_eq, if◌then◌else◌}
use Rattle.marble_marks.specs.Deeds.{Doing, Done}
use Rattle.marble_marks.specs.Deeds as deeds

-- whether this is an emission with this ticket that has to wait
abbrev pub waits_as : List ℕ → Doing → Bool
waits_as ticket (deeds.waits host name value) = bytes_eq name ticket
waits_as ticket _ = false

-- whether an emission with this ticket has to wait in one of these lines
abbrev pub is_waiting : List ℕ → List Done → Bool
is_waiting ticket [] = false
is_waiting ticket (act ∷ acts) = if waits_as ticket act.doing then true else is_waiting ticket acts

-- whether this, if it is an emission that has to wait, has to wait in one of these lines
abbrev pub is_met : List Done → Doing → Bool
is_met all (deeds.waits host ticket value) = is_waiting ticket all
is_met all _ = true

abbrev pub removes : List ℕ → Doing → Bool
removes ticket (deeds.removes name) = bytes_eq name ticket
removes ticket _ = false

-- whether an emission is taken back in one of these lines
abbrev pub is_removed : List ℕ → List Done → Bool
is_removed ticket [] = false
is_removed ticket (act ∷ acts) = if removes ticket act.doing then true else is_removed ticket acts
