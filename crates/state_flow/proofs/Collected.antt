-- What asks leave of what a collector was given.
use Rattle.std.proofs.Common.{◌≡◌, ◌++◌, Option, Some, None, append-nil, sym, ◌∙◌}
use Rattle.state_flow.specs.declared.view.View.{View}
use Rattle.state_flow.specs.Calls.{Collects}
use Rattle.flow_terms.specs.Lists.{some_of}

module _ {T : Type 0} where
  -- a collector was given what it had been given, and then what this ask gave
  pub collected_on : (v w : View T) (given : Option T) → Collects v given w → w.collected ≡ v.collected ++ some_of given
  collected_on v w None asks = asks.received ∙ sym (append-nil v.collected)
  collected_on v w (Some x) asks = asks.received
