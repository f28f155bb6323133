-- What the steps of a sharing do to a seat of the state that it sets.
use Rattle.std.specs.Prelude.{◌≡◌, false}
use Rattle.state_flow.specs.declared.view.View.{View}
use Rattle.state_flow.specs.Calls.{Counts, Sets}
use Rattle.sharing_upstream.specs.Destinations.{Steps}

-- Each value is set at once, and a reset sets this one
abbrev pub setting : {T : Type 0} → T → Steps T (View T)
setting initial = record {
  Counts = Counts;
  Asks = λ before waits after. (waits ≡ false) × (after ≡ before);
  Accepts = Sets;
  Delays = λ before x after. ⊥;
  Refuses = λ before x refusal after. ⊥;
  Withdraws = λ before after. after ≡ before;
  Resets = λ before after. Sets before initial after;
}
