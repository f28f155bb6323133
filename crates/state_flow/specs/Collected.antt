-- What a caller has of a collector: the values that it was given since it began, in order, and what these have to do with the state.
use Rattle.std.specs.Prelude.{List, [], ◌∷◌}
use Rattle.futures.specs.declared.task.Poll.{Poll}
use Rattle.futures.specs.declared.task.Poll.TheVariants.{Ready, Pending}
use Rattle.state_flow.specs.History.{IsHistory, Picks}
use Rattle.state_flow.specs.Views.{SeatSeen}

-- what a collector was given since it began, in order
abbrev pub collected : {T : Type 0} → SeatSeen T → List T
collected c = c.view.collected

-- the value in an answer, if there is one, as a list
abbrev pub ready_of : {T : Type 0} → Poll T → List T
ready_of (Ready x) = x ∷ []
ready_of Pending = []

-- Of any collector, between any two of its calls: what it has seen is a history of the state, and what it was given since it began is a
-- subsequence of that history, without equal neighbours.
pub record IsPickedFromHistory {T : Type 0} (c : SeatSeen T) : Type 0 where
  pub is_history : IsHistory c.view.seen
  pub picks : Picks (collected c) c.view.seen
