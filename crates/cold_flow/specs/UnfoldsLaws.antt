-- Laws of what steps unfold into.
use Rattle.std.specs.Prelude.{◌≡◌, refl, List, [], Some}
use Rattle.cold_flow.specs.declared.cause.Cause.TheVariants.{Cancelled}
use Rattle.cold_flow.specs.declared.builders.unfold.Unfolded.{Unfolded}
use Rattle.cold_flow.specs.declared.builders.unfold.Unfolded.TheVariants.{Next, Finish, Fail}
use Rattle.cold_flow.specs.Trace.{Trace, ended_by, so_far, led_by}
use Rattle.cold_flow.specs.Unfolds.{Unfolds, EndsAt}

module _ {T S E : Type 0} where
  pub unfolds-nothing : (step : S → Unfolded T S E) (state : S) → Unfolds step state (so_far [])
  unfolds-nothing step state = record { last = state; leads = refl; ends = tt }

  -- a value, and then what the next state unfolds into
  pub unfolds-next : (step : S → Unfolded T S E) (state : S) (value : T) (next : S) → step state ≡ Next value next
      → (t : Trace T E) → Unfolds step next t → Unfolds step state (led_by value t)
  unfolds-next step state value next is t h = record { last = h.last; leads = (next, is, h.leads); ends = h.ends }

  cancelled : (answer : Unfolded T S E) → EndsAt answer (Some Cancelled) → ⊥
  cancelled (Next value state) h = h
  cancelled Finish h = absurd (cc)
  cancelled (Fail fault) h = absurd (cc)

  -- no step ends by a cancellation
  pub unfolds-uncancelled : (step : S → Unfolded T S E) (state : S) (values : List T) → Unfolds step state (ended_by values Cancelled) → ⊥
  unfolds-uncancelled step state values h = cancelled (step h.last) h.ends
