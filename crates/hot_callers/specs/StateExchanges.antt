-- What came of a state that one thread set, and whose values another collected.
use Rattle.std.specs.Prelude.{◌≡◌, ℕ, List, [], ◌∷◌, ◌==◌, if◌then◌else◌}
use Rattle.state_flow.specs.declared.view.View.{View}
use Rattle.state_flow.specs.History.{Picks}
use Rattle.state_flow.specs.Views.{SeatSeen}
use Rattle.state_flow.specs.Calls.{Sets}

-- each of these that differs from the one before it
abbrev pub changes : ℕ → List ℕ → List ℕ
changes last [] = []
changes last (x ∷ xs) = if x == last then changes last xs else x ∷ changes x xs

-- the history of a state with a first value, where just these were set, one after another
abbrev pub history_of : ℕ → List ℕ → List ℕ
history_of first values = first ∷ changes first values

-- a seat set these, one after another
abbrev pub SetsOn : List ℕ → View ℕ → View ℕ → Type 0
SetsOn [] v w = w ≡ v
SetsOn (x ∷ xs) v w = (m : View ℕ) × Sets v x m × SetsOn xs m w

abbrev pub SetsEach : List ℕ → SeatSeen ℕ → SeatSeen ℕ → Type 0
SetsEach values s t = (t.flow ≡ s.flow) × SetsOn values s.view t.view

-- a collector was asked some times, which wrote nothing
pub record AsksOn (s t : SeatSeen ℕ) : Type 0 where
  pub same_flow : t.flow ≡ s.flow
  pub share : t.view.share ≡ s.view.share
  pub writes : t.view.writes ≡ s.view.writes
  pub picks : Picks s.view.collected s.view.seen → Picks t.view.collected t.view.seen
