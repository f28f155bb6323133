-- Two sources at once.
use Rattle.std.specs.Prelude.{◌≡◌, [], Option, Some, None}
use Rattle.cold_flow.specs.declared.cause.Cause.{Cause}
use Rattle.cold_flow.specs.declared.cause.Cause.TheVariants.{Finished}
use Rattle.cold_flow.specs.Trace.{Trace, so_far, ended_by, led_by}
use Rattle.cold_flow.specs.Poll.{Traces}

-- What may come of two traces: the first value of either comes next. It finishes once both have, and another end of either ends it. It may
-- stop anywhere.
pub data Interleaves {A E : Type 0} : Trace A E → Trace A E → Trace A E → Type 0 where
  stops : {t u : Trace A E} → Interleaves t u (so_far [])
  left_gives : {t u out : Trace A E} (x : A) → Interleaves t u out → Interleaves (led_by x t) u (led_by x out)
  right_gives : {t u out : Trace A E} (x : A) → Interleaves t u out → Interleaves t (led_by x u) (led_by x out)
  finishes : Interleaves (ended_by [] Finished) (ended_by [] Finished) (ended_by [] Finished)
  left_ends : {u : Trace A E} (k : Cause E) → (k ≡ Finished → ⊥) → Interleaves (ended_by [] k) u (ended_by [] k)
  right_ends : {t : Trace A E} (k : Cause E) → (k ≡ Finished → ⊥) → Interleaves t (ended_by [] k) (ended_by [] k)

-- what may come of what two sources may give
pub record MayInterleave {A E : Type 0} (left right : Traces A E) (t : Trace A E) : Type 0 where
  pub of_left : Trace A E
  pub of_right : Trace A E
  pub left_came : left of_left
  pub right_came : right of_right
  pub interleaves : Interleaves of_left of_right t
