-- What asks of the collectors of two states came to.
use Rattle.std.specs.Prelude.{◌⊎◌, List, [], Option, Some, None, IsSome}
use Rattle.state_flow.specs.declared.view.View.{View}
use Rattle.state_flow.specs.Calls.{Collects}
use Rattle.flow_terms.specs.Lists.{some_of}
use Rattle.state_waiting.specs.Waits.{AskedOn}
use Rattle.paired_states.specs.declared.fresh.Fresh.{Fresh}

-- one of them is there
abbrev pub IsSomeOf : {T U : Type 0} → Option T → Option U → Type 0
IsSomeOf x y = IsSome x ⊎ IsSome y

module _ {T U : Type 0} where
  -- each was asked once, and given this
  abbrev pub AskedOnce : View T → View U → Option T → Option U → View T → View U → Type 0
  AskedOnce v w x y v' w' = Collects v x v' × Collects w y w'

  -- after asks of each that gave nothing, if any, the last ask of each gave this, one value at least
  abbrev pub Asked : View T → View U → Option T → Option U → View T → View U → Type 0
  Asked v w x y v' w' = AskedOn v x v' × AskedOn w y w' × IsSomeOf x y

  -- the last ask of each gave nothing either
  abbrev pub AskedNone : View T → View U → View T → View U → Type 0
  AskedNone v w v' w' = AskedOn v None v' × AskedOn w None w'

  -- what an answer has of each state, as a list
  abbrev pub first_of : Option (Fresh T U) → List T
  first_of (Some fresh) = some_of fresh.first
  first_of None = []

  abbrev pub second_of : Option (Fresh T U) → List U
  second_of (Some fresh) = some_of fresh.second
  second_of None = []
