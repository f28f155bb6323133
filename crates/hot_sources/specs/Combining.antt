-- What a run over the collectors of two states gives, and what those were given meanwhile.
use Rattle.std.specs.Prelude.{◌≡◌, ◌⊎◌, List, [], ◌∷◌, ◌++◌, Option, Some, None, IsSome}
use Rattle.std.specs.List.{cons_option}
use Rattle.flow_terms.specs.Lists.{some_of}
use Rattle.futures.specs.declared.task.Poll.{Poll}
use Rattle.futures.specs.declared.task.Poll.TheVariants.{Ready, Pending}
use Rattle.cold_flow.specs.declared.event.Event.{Event}
use Rattle.cold_flow.specs.declared.event.Event.TheVariants.{Value, End}
use Rattle.state_flow.specs.Views.{SeatSeen}
use Rattle.state_flow.specs.Calls.{Collects}

module _ {T U : Type 0} where
  -- each was asked once, at the same state, and given this
  abbrev pub AskedEach : SeatSeen T → SeatSeen U → Option T → Option U → SeatSeen T → SeatSeen U → Type 0
  AskedEach s s2 x y t t2 = (t.flow ≡ s.flow) × Collects s.view x t.view × (t2.flow ≡ s2.flow) × Collects s2.view y t2.view

  -- what a poll gave is what the two were given by one ask of each, one value at least; with an end they were asked nothing
  abbrev pub AskedBoth : {E : Type 0} → SeatSeen T → SeatSeen U → Poll (Event (Option T × Option U) E) → SeatSeen T → SeatSeen U → Type 0
  AskedBoth s s2 (Ready (Value new)) t t2 = AskedEach s s2 new.0 new.1 t t2 × (IsSome new.0 ⊎ IsSome new.1)
  AskedBoth s s2 (Ready (End k)) t t2 = (t ≡ s) × (t2 ≡ s2)
  AskedBoth s s2 Pending t t2 = AskedEach s s2 None None t t2

module _ {T U : Type 0} where
  -- the values that came of each
  abbrev pub firsts : List (Option T × Option U) → List T
  firsts [] = []
  firsts (new ∷ more) = some_of new.0 ++ firsts more

  abbrev pub seconds : List (Option T × Option U) → List U
  seconds [] = []
  seconds (new ∷ more) = some_of new.1 ++ seconds more

-- the value that came, where one did, else the one before
abbrev pub newest : {T : Type 0} → Option T → Option T → Option T
newest (Some x) before = Some x
newest None before = before

module _ {T U C : Type 0} (g : T × U → C) where
  -- g of the latest value of each, once there is one of each
  abbrev pub combined : Option T → Option U → Option C
  combined (Some x) (Some y) = Some (g (x, y))
  combined (Some x) None = None
  combined None y = None

  -- the same at each time that either changes
  abbrev pub combined_after : Option T → Option U → List (Option T × Option U) → List C
  combined_after x y [] = []
  combined_after x y (new ∷ more) = cons_option (combined (newest new.0 x) (newest new.1 y)) (combined_after (newest new.0 x) (newest new.1 y) more)
