-- A run that stands, if any: one that has finished stands no more.
use Rattle.std.specs.Prelude.{◌≡◌, ◌⊎◌, Bool, true, Option, Some, None, ⊤}
use Rattle.std.specs.Iterator.{Count}
use Rattle.futures.specs.declared.task.Poll.{Poll}
use Rattle.futures.specs.declared.task.Poll.TheVariants.{Ready, Pending}
use Rattle.cold_flow.specs.declared.cause.Cause.{Cause}
use Rattle.cold_flow.specs.declared.cause.Cause.TheVariants.{Finished}
use Rattle.cold_flow.specs.declared.event.Event.{Event}
use Rattle.cold_flow.specs.declared.event.Event.TheVariants.{Value, End}
use Rattle.cold_flow.specs.Poll.{IsWithinPolls}
use Rattle.cold_flow.specs.Polled.{HasWaited, WasCancelled}
use Rattle.flow_merge.specs.Counting.{IsFewer, standing_polls}

module _ {R : Type 0} (cancelled : R → R → Type 0) (stopped : R → Bool) where
  -- the run that stood, if any, was cancelled, and no source of it is asked any more
  abbrev pub IsLetGo : Option R → Type 0
  IsLetGo None = ⊤
  IsLetGo (Some r) = WasCancelled cancelled stopped r

  -- what stood stands, or it was let go
  abbrev pub StandsOrLetGo : Option R → Option R → Type 0
  StandsOrLetGo old now = (now ≡ old) ⊎ IsLetGo old

module _ {R A E : Type 0} (polled : R → Poll (Event A E) → R → Type 0) where
  -- the run that stands, if any, was polled once, and stands or has finished
  abbrev pub WasAsked : Option R → Option R → Type 0
  WasAsked None now = now ≡ None
  WasAsked (Some r) now = (answer : Poll (Event A E)) × (s : R) × polled r answer s × ((now ≡ Some s) ⊎ (now ≡ None))

  -- the run that stands, if any, has answered pending
  abbrev pub HasStandingWaited : Option R → Type 0
  HasStandingWaited None = ⊤
  HasStandingWaited (Some r) = HasWaited polled r

-- P, where the question brought nothing
abbrev pub OnNothing : {A E : Type 0} → Poll (Option (Event A E)) → Type 0 → Type 0
OnNothing (Ready None) P = P
OnNothing (Ready (Some event)) P = ⊤
OnNothing Pending P = ⊤

-- the question gave no `Finished`
abbrev pub IsNoFinish : {A E : Type 0} → Poll (Option (Event A E)) → Type 0
IsNoFinish (Ready (Some (Value v))) = ⊤
IsNoFinish (Ready (Some (End k))) = k ≡ Finished → ⊥
IsNoFinish (Ready None) = ⊤
IsNoFinish Pending = ⊤

-- whether the run that stands, if any, never answers pending
abbrev pub standing_prompt : {R : Type 0} → (R → Bool) → Option R → Bool
standing_prompt prompt None = true
standing_prompt prompt (Some r) = prompt r

-- no more polls are left after a question, and fewer, unless it brought nothing; nothing is said with an end
abbrev pub StandingApproaches : {A E R : Type 0} → (R → Count) → Option R → Poll (Option (Event A E)) → Option R → Type 0
StandingApproaches polls old (Ready (Some (Value v))) new = IsFewer (standing_polls polls old) (standing_polls polls new)
StandingApproaches polls old (Ready (Some (End k))) new = ⊤
StandingApproaches polls old (Ready None) new = IsWithinPolls (standing_polls polls old) (standing_polls polls new)
StandingApproaches polls old Pending new = IsFewer (standing_polls polls old) (standing_polls polls new)
