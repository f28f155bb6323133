-- The inner source of the latest outer value.
use Rattle.std.specs.Prelude.{◌≡◌, ◌⊎◌, Bool, [], Option, Some, None, ⊤, IsTrue}
use Rattle.futures.specs.declared.task.Poll.{Poll}
use Rattle.futures.specs.declared.task.Poll.TheVariants.{Ready, Pending}
use Rattle.cold_flow.specs.declared.cause.Cause.{Cause}
use Rattle.cold_flow.specs.declared.cause.Cause.TheVariants.{Finished}
use Rattle.cold_flow.specs.declared.event.Event.{Event}
use Rattle.cold_flow.specs.declared.event.Event.TheVariants.{Value, End}
use Rattle.cold_flow.specs.Trace.{Trace, so_far, ended_by, led_by}
use Rattle.cold_flow.specs.Poll.{Traces}
use Rattle.cold_flow.specs.Polled.{HasWaited}
use Rattle.flow_merge.specs.Concat.{OrUnstarted}
use Rattle.more_merges.specs.Standing.{IsLetGo, StandsOrLetGo, WasAsked}

-- What may come of the inner trace that stands and of the rest of the outer. The next outer value puts its inner trace, or that its
-- start was refused, in place of the one that stands, whose rest is lost; else the first value of the one that stands comes next. It
-- finishes once both have, and another end of either ends it. It may stop anywhere.
pub data Switches {A B E : Type 0} (starts : A → Bool) (inner : A → Traces B E) : Trace B E → Trace A E → Trace B E → Type 0 where
  stops : {standing : Trace B E} {outer : Trace A E} → Switches starts inner standing outer (so_far [])
  begins : {standing : Trace B E} {outer : Trace A E} {out : Trace B E} (x : A) (t : Trace B E) → OrUnstarted (starts x) (inner x) t
      → Switches starts inner t outer out → Switches starts inner standing (led_by x outer) out
  gives : {standing : Trace B E} {outer : Trace A E} {out : Trace B E} (v : B)
      → Switches starts inner standing outer out → Switches starts inner (led_by v standing) outer (led_by v out)
  finishes : Switches starts inner (ended_by [] Finished) (ended_by [] Finished) (ended_by [] Finished)
  outer_ends : {standing : Trace B E} (k : Cause E) → (k ≡ Finished → ⊥) → Switches starts inner standing (ended_by [] k) (ended_by [] k)
  inner_ends : {outer : Trace A E} (k : Cause E) → (k ≡ Finished → ⊥) → Switches starts inner (ended_by [] k) outer (ended_by [] k)

-- what may come, of what the run that stands may give and of the rest of the outer
pub record MaySwitch {A B E : Type 0} (starts : A → Bool) (inner : A → Traces B E) (standing : Traces B E) (outer : Traces A E)
    (t : Trace B E) : Type 0 where
  pub of_standing : Trace B E
  pub of_outer : Trace A E
  pub standing_came : standing of_standing
  pub outer_came : outer of_outer
  pub switches : Switches starts inner of_standing of_outer t

module _ {R A E : Type 0} (polled : R → Poll (Event A E) → R → Type 0) (cancelled : R → R → Type 0) (stopped : R → Bool) where
  -- what became of the run that stood, where a question brought nothing, a value, or has to wait: another one stands in its place,
  -- or it was asked
  abbrev pub Fate : Option R → Poll (Option (Event A E)) → Option R → Type 0
  Fate old (Ready None) now = IsLetGo cancelled stopped old
  Fate old (Ready (Some (Value v))) now = WasAsked polled old now
  Fate old (Ready (Some (End k))) now = ⊤
  Fate old Pending now = WasAsked polled old now

  -- The same of a poll that gave no end: the run that stood stands or was let go, and the one that stands then was asked at most once.
  pub record Follows (old now : Option R) : Type 0 where
    pub mid : Option R
    pub stood : StandsOrLetGo cancelled stopped old mid
    pub asked : (now ≡ mid) ⊎ WasAsked polled mid now

-- the outer has finished or answered pending
abbrev pub HasOuterWaited : {O A E : Type 0} → (O → Poll (Event A E) → O → Type 0) → Bool → O → Type 0
HasOuterWaited polled finished outer = IsTrue finished ⊎ HasWaited polled outer
