-- Several traces at once, each value with the index of the trace that gave it.
use Rattle.std.specs.Prelude.{◌≡◌, ◌⊎◌, ℕ, ◌+◌, ◌<◌, Bool, true, ◌&&◌, IsTrue, List, [], ◌∷◌, Option, Some, None, ⊤, slice_get, slice_set}
use Rattle.std.specs.Iterator.{Count, at_most, count_add}
use Rattle.std.specs.List.{All, AllZip}
use Rattle.futures.specs.declared.task.Poll.{Poll}
use Rattle.futures.specs.declared.task.Poll.TheVariants.{Ready, Pending}
use Rattle.cold_flow.specs.declared.cause.Cause.{Cause}
use Rattle.cold_flow.specs.declared.cause.Cause.TheVariants.{Finished}
use Rattle.cold_flow.specs.declared.event.Event.{Event}
use Rattle.cold_flow.specs.declared.event.Event.TheVariants.{Value, End}
use Rattle.cold_flow.specs.Trace.{Trace, so_far, ended_by, led_by}
use Rattle.cold_flow.specs.Poll.{Traces, Within, IsWithinPolls}
use Rattle.flow_merge.specs.Concat.{MayStand}
use Rattle.flow_merge.specs.Counting.{IsFewer, with_end, standing_polls}
use Rattle.futures.specs.Poll.{OnPending}
use Rattle.more_merges.specs.Standing.{HasStandingWaited, OnNothing, standing_prompt}

-- What may come of several traces: the first value of any of them comes next, with its index. It finishes once all have, and another end
-- of one ends it. It may stop anywhere.
pub data Joins {A E : Type 0} : List (Trace A E) → Trace (ℕ × A) E → Type 0 where
  stops : {ts : List (Trace A E)} → Joins ts (so_far [])
  gives : {ts : List (Trace A E)} {out : Trace (ℕ × A) E} (at : ℕ) (x : A) (rest : Trace A E) → slice_get ts at ≡ Some (led_by x rest)
      → Joins (slice_set ts at rest) out → Joins ts (led_by (at, x) out)
  finishes : {ts : List (Trace A E)} → All (λ t. t ≡ ended_by [] Finished) ts → Joins ts (ended_by [] Finished)
  ends : {ts : List (Trace A E)} (at : ℕ) (k : Cause E) → slice_get ts at ≡ Some (ended_by [] k) → (k ≡ Finished → ⊥) → Joins ts (ended_by [] k)

-- what may come of what several sources may give
pub record MayJoin {A E R : Type 0} (may : R → Traces A E) (sources : List R) (t : Trace (ℕ × A) E) : Type 0 where
  pub traces : List (Trace A E)
  pub came : AllZip may sources traces
  pub joins : Joins traces t

-- the value without its index
abbrev pub value_of : {A : Type 0} → ℕ × A → A
value_of x = x.1

-- whether it holds of each
abbrev pub each_is : {X : Type 0} → (X → Bool) → List X → Bool
each_is test [] = true
each_is test (x ∷ xs) = test x && each_is test xs

-- the polls that are left of all of them
abbrev pub all_polls : {X : Type 0} → (X → Count) → List X → Count
all_polls polls [] = at_most 0
all_polls polls (x ∷ xs) = count_add (polls x) (all_polls polls xs)

-- what the source at an index answered, with that index
abbrev pub indexed : {A E : Type 0} → ℕ → Poll (Option (Event A E)) → Poll (Option (Event (ℕ × A) E))
indexed at (Ready (Some (Value v))) = Ready (Some (Value (at, v)))
indexed at (Ready (Some (End k))) = Ready (Some (End k))
indexed at (Ready None) = Ready None
indexed at Pending = Pending

-- no more polls are left of all of them after a question to one, and fewer, unless it brought nothing; nothing is said with an end
abbrev pub AllApproach : {A E : Type 0} → Count → Poll (Option (Event A E)) → Count → Type 0
AllApproach old (Ready (Some (Value v))) new = IsFewer old new
AllApproach old (Ready (Some (End k))) new = ⊤
AllApproach old (Ready None) new = IsWithinPolls old new
AllApproach old Pending new = IsFewer old new

-- what stands at a place was asked: it has waited where that answered pending, and has finished where that brought nothing
abbrev pub StandsSo : {R A E : Type 0} → (R → Poll (Event A E) → R → Type 0) → List (Option R) → ℕ → Poll (Option (Event A E)) → List (Option R)
    → Type 0
StandsSo {R} polled old place answer new =
    (side : Option R) × (new ≡ slice_set old place side) × OnPending answer (HasStandingWaited polled side) × OnNothing answer (side ≡ None)

-- the place of the one that is asked after so many others, of count, from first on
abbrev pub IsPlace : ℕ → ℕ → ℕ → ℕ → Type 0
IsPlace count first asked at = (at ≡ first + asked) ⊎ (at + count ≡ first + asked)

-- P holds of each that was asked
pub record WereAsked {X : Type 0} (P : X → Type 0) (count first asked : ℕ) (xs : List X) : Type 0 where
  pub each : (k at : ℕ) (x : X) → k < asked → IsPlace count first k at → slice_get xs at ≡ Some x → P x

-- the run of a source, as it stands once it was started
pub record Began {F R A E : Type 0} (may : F → Traces A E) (polls : F → Count) (prompt : F → Bool) (run_may : R → Traces A E) (run_polls : R → Count)
    (run_prompt : R → Bool) (flow : F) (standing : Option R) : Type 0 where
  pub gives : Within (may flow) (MayStand run_may standing)
  pub lasts : IsWithinPolls (with_end (polls flow)) (standing_polls run_polls standing)
  pub answers : IsTrue (prompt flow) → IsTrue (standing_prompt run_prompt standing)

-- each of them that has not finished has answered pending
abbrev pub EachHasWaited : {R A E : Type 0} → (R → Poll (Event A E) → R → Type 0) → List (Option R) → Type 0
EachHasWaited {R} polled sides = (at : ℕ) (side : Option R) → slice_get sides at ≡ Some side → HasStandingWaited polled side
