-- Several inner sources at once.
use Rattle.std.specs.Prelude.{◌≡◌, ℕ, ◌+◌, ◌<◌, ◌≤◌, Bool, List, [], ◌∷◌, ◌++◌, Option, Some, None, ⊤, length, slice_get, slice_set}
use Rattle.std.specs.List.{AllZip, remove}
use Rattle.cold_flow.specs.declared.cause.Cause.{Cause}
use Rattle.cold_flow.specs.declared.cause.Cause.TheVariants.{Finished}
use Rattle.futures.specs.declared.task.Poll.{Poll}
use Rattle.futures.specs.declared.task.Poll.TheVariants.{Ready, Pending}
use Rattle.cold_flow.specs.Trace.{Trace, so_far, ended_by, led_by}
use Rattle.cold_flow.specs.Poll.{Traces, Within, Narrows, Unless, OrRefused}
use Rattle.flow_merge.specs.declared.flows.inner_answer.InnerAnswer.{InnerAnswer}
use Rattle.flow_merge.specs.declared.flows.inner_answer.InnerAnswer.TheVariants.{Gave, Left, Followed, OuterWaits, Waits}
use Rattle.flow_merge.specs.Combine.{OrFinished}

-- What may come of the inner traces that stand and of the rest of the outer, where at most limit stand:
-- the next outer value lets an inner trace stand, or its start is refused; the first value of one that stands comes next; one that has
-- finished leaves. It finishes once the outer has and none stands, and another end of the outer or of one that stands ends it. It may stop anywhere.
pub data Merges {A B E : Type 0} (limit : ℕ) (inner : A → Traces B E) : List (Trace B E) → Trace A E → Trace B E → Type 0 where
  stops : {standing : List (Trace B E)} {outer : Trace A E} → Merges limit inner standing outer (so_far [])
  begins : {standing : List (Trace B E)} {outer : Trace A E} {out : Trace B E} (x : A) (t : Trace B E) → length standing < limit → OrRefused (inner x) t
      → Merges limit inner (standing ++ t ∷ []) outer out → Merges limit inner standing (led_by x outer) out
  gives : {standing : List (Trace B E)} {outer : Trace A E} {out : Trace B E} (at : ℕ) (v : B) (t : Trace B E)
      → slice_get standing at ≡ Some (led_by v t) → Merges limit inner (slice_set standing at t) outer out
      → Merges limit inner standing outer (led_by v out)
  leaves : {standing : List (Trace B E)} {outer : Trace A E} {out : Trace B E} (at : ℕ)
      → slice_get standing at ≡ Some (ended_by [] Finished) → Merges limit inner (remove standing at) outer out → Merges limit inner standing outer out
  finishes : Merges limit inner [] (ended_by [] Finished) (ended_by [] Finished)
  outer_ends : {standing : List (Trace B E)} (k : Cause E) → length standing < limit → (k ≡ Finished → ⊥)
      → Merges limit inner standing (ended_by [] k) (ended_by [] k)
  inner_ends : {standing : List (Trace B E)} {outer : Trace A E} (at : ℕ) (k : Cause E) → slice_get standing at ≡ Some (ended_by [] k)
      → (k ≡ Finished → ⊥) → Merges limit inner standing outer (ended_by [] k)

-- what a merge may give, of the runs that stand and the rest of the outer
pub record MayMerge {A B E R : Type 0} (limit : ℕ) (inner : A → Traces B E) (may : R → Traces B E)
    (runs : List R) (outer : Traces A E) (t : Trace B E) : Type 0 where
  pub standing : List (Trace B E)
  pub of_outer : Trace A E
  pub stand : AllZip may runs standing
  pub outer_came : outer of_outer
  pub merges : Merges limit inner standing of_outer t

-- whatever is made may come of a merge of which no inner run stands yet
abbrev pub MakesMerge : {A B E R : Type 0} → ℕ → (A → Traces B E) → (R → Traces B E) → Traces A E → Traces B E → Type 0
MakesMerge limit inner may outer made = Within (MayMerge limit inner may [] outer) made

-- what a run of a merge may still give, whose outer may have finished, until the run has ended
abbrev pub MayStillMerge : {A B E R : Type 0} → Option (Cause E) → ℕ → (A → Traces B E) → (R → Traces B E) → List R → Bool → Traces A E
    → Traces B E
MayStillMerge ended limit inner may runs outer_finished outer =
    Unless ended (MayMerge limit inner may runs (OrFinished outer_finished outer))

-- what a question to the outer says of the whole: the cause that it ends by, or nothing
abbrev pub AsksOuter : {A E : Type 0} → Traces A E → Poll (Option (Cause E)) → Traces A E → Type 0
AsksOuter old (Ready None) new = Within old new
AsksOuter old (Ready (Some k)) new = old (ended_by [] k)
AsksOuter old Pending new = Within old new

-- what a question to an inner run says of the whole
abbrev pub AsksInner : {B E : Type 0} → Traces B E → InnerAnswer B E → Traces B E → Type 0
AsksInner old (Gave event) new = Narrows old (Ready event) new
AsksInner old Left new = Within old new
AsksInner old Followed new = Within old new
AsksInner old OuterWaits new = Within old new
AsksInner old Waits new = Within old new

-- after a question to one that stands, those of old still stand, or at most one of them left
abbrev pub StandAfter : {B E : Type 0} → InnerAnswer B E → ℕ → ℕ → Type 0
StandAfter (Gave event) old new = ⊤
StandAfter Left old new = old ≤ new + 1
StandAfter Followed old new = old ≤ new + 1
StandAfter OuterWaits old new = old ≤ new + 1
StandAfter Waits old new = new ≡ old

-- P, where somebody who was asked has nothing yet
abbrev pub OnWaits : {B E : Type 0} → InnerAnswer B E → Type 0 → Type 0
OnWaits (Gave event) P = ⊤
OnWaits Left P = ⊤
OnWaits Followed P = ⊤
OnWaits OuterWaits P = P
OnWaits Waits P = P
