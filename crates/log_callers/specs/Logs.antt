-- What stands in a log of a subscription's values.
use Rattle.std.specs.Prelude.{◌≡◌, ℕ, List, ◌++◌}
use Rattle.shared_flow.specs.Parties.{Subscribed, received}
use Rattle.shared_flow.specs.Received.{ReceivesAllButDropped}

-- what stands in the log now is what stood there, then what the subscription received meanwhile, in order
abbrev pub Logs : List ℕ → Subscribed ℕ → List ℕ → Subscribed ℕ → Type 0
Logs before s after t = (events : List ℕ) × (after ≡ before ++ events) × (received (λ word. word) t ≡ received (λ word. word) s ++ events)

-- The log has all that the subscription received; so the log, then what is left of the prelude and what is pending, is the prelude, the replay
-- cache at the start and all that was accepted later, less what the policy dropped.
pub record IsWholeLog (log : List ℕ) (s : Subscribed ℕ) : Type 0 where
  pub has_all : log ≡ received (λ word. word) s
  pub law : ReceivesAllButDropped (λ word. word) s
