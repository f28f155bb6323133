-- Runs that stand side by side, one of which is asked.
use Rattle.std.specs.Prelude.{◌≡◌, ◌⊎◌, ℕ, ◌+◌, Bool, true, ◌&&◌, List, [], ◌∷◌, ◌++◌, length, Some, slice_get, slice_set}
use Rattle.std.specs.List.{AllZip, insert, remove}
use Rattle.futures.specs.declared.task.Poll.{Poll}
use Rattle.futures.specs.declared.task.Poll.TheVariants.{Ready, Pending}
use Rattle.cold_flow.specs.declared.cause.Cause.{Cause}
use Rattle.cold_flow.specs.declared.event.Event.{Event}
use Rattle.cold_flow.specs.declared.event.Event.TheVariants.{Value, End}
use Rattle.cold_flow.specs.Trace.{Trace, ended_by, led_by}
use Rattle.cold_flow.specs.Poll.{Traces}

-- the runs could give v first at place at, and the traces then
pub record Gave {B E R : Type 0} (may : R → Traces B E) (runs : List R) (at : ℕ) (v : B) (traces : List (Trace B E)) : Type 0 where
  pub before : List (Trace B E)
  pub rest : Trace B E
  pub stand : AllZip may runs before
  pub first : slice_get before at ≡ Some (led_by v rest)
  pub left : slice_set before at rest ≡ traces

-- the runs could end by k at place at, and the others give the traces
pub record Ended {B E R : Type 0} (may : R → Traces B E) (runs : List R) (at : ℕ) (k : Cause E) (traces : List (Trace B E)) : Type 0 where
  pub before : List (Trace B E)
  pub stand : AllZip may runs before
  pub first : slice_get before at ≡ Some (ended_by [] k)
  pub left : remove before at ≡ traces

-- what an answer of the run at a place says of them all; where it has ended, of the others
abbrev pub Answered : {B E R : Type 0} → (R → Traces B E) → List R → ℕ → Poll (Event B E) → List R → Type 0
Answered {B} {E} may old at (Ready (Value v)) new = (traces : List (Trace B E)) → AllZip may new traces → Gave may old at v traces
Answered {B} {E} may old at (Ready (End k)) new = (traces : List (Trace B E)) → AllZip may (remove new at) traces → Ended may old at k traces
Answered {B} {E} may old at Pending new = (traces : List (Trace B E)) → AllZip may new traces → AllZip may old traces

-- whether none of the runs asks a source any more
abbrev pub all_stopped : {R : Type 0} → (R → Bool) → List R → Bool
all_stopped stopped [] = true
all_stopped stopped (r ∷ runs) = stopped r && all_stopped stopped runs

-- One more stands before the turn, which stays with the same one: it came in there or, where none stands before the turn or none behind it,
-- behind the last one, and the turn is that of the first one.
abbrev pub StandsBefore : {R : Type 0} → List R → ℕ → R → List R → ℕ → Type 0
StandsBefore old turn r new next = ((new ≡ insert old turn r) × (next ≡ turn + 1))
    ⊎ (((turn ≡ 0) ⊎ (turn ≡ length old)) × (new ≡ old ++ r ∷ []) × (next ≡ 0))
