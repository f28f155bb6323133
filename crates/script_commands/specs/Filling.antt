-- What a list is filled with.
use Rattle.std.specs.Prelude.{ℕ, List, [], ◌∷◌, ◌++◌}
use Rattle.cold_flow.specs.declared.event.Event.{Event}
use Rattle.cold_flow.specs.declared.event.Event.TheVariants.{Value, End}
use Rattle.cold_flow.specs.Gather.{Gathered}
use Rattle.cold_flow.specs.Poll.{Traces, Within}
use Rattle.cold_flow.specs.Trace.{ended_by}

-- What polls of a run added to a list: all that it gave before this value, which came next, or before this end. Before it, these
-- values stood there, and the run could still give the traces of old.
abbrev pub FillsTo : List ℕ → Traces ℕ ℕ → Event ℕ ℕ → List ℕ → Traces ℕ ℕ → Type 0
FillsTo values old (Value v) more new = Within (Gathered values old) (Gathered (more ++ v ∷ []) new)
FillsTo values old (End k) more new = Gathered values old (ended_by more k)
