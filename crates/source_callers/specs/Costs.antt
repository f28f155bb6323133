-- What orders cost, by the price at each.
use Rattle.std.specs.Prelude.{◌≡◌, ◌*◌, ◌%◌, ◌^◌, ℕ, List, ◌++◌, Option, None}
use Rattle.shared_flow.specs.Parties.{Subscribed}
use Rattle.state_flow.specs.Collected.{collected}
use Rattle.state_flow.specs.Views.{SeatSeen}
use Rattle.hot_sources.specs.Combining.{combined_after, firsts, seconds}
use Rattle.hot_sources.specs.Receiving.{Receives}

abbrev pub cost : ℕ × ℕ → ℕ
cost both = (both.0 * both.1) % 2 ^ 64

-- Some prices and some orders came: these are all that the collector was given meanwhile, and all that the subscription was. The costs of the
-- latest price and the latest order, at each that came, were added to a list.
abbrev pub TookCosts : (ℕ → ℕ) → SeatSeen ℕ → Subscribed ℕ → List ℕ → List ℕ → SeatSeen ℕ → Subscribed ℕ → Type 0
TookCosts read_as price orders before after price2 orders2 = (came : List (Option ℕ × Option ℕ))
    × (after ≡ before ++ combined_after cost None None came)
    × (collected price2 ≡ collected price ++ firsts came)
    × Receives read_as orders (seconds came) orders2
