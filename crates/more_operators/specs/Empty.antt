-- What `on_start` and `on_empty` make of a source.
use Rattle.std.specs.Prelude.{◌≡◌, Bool, true, false, List, [], ◌∷◌, Option, Some, None, if◌then◌else◌, refl}
use Rattle.std.proofs.Common.{ap, ◌∙◌}
use Rattle.flow_terms.specs.declared.few.Few.{Few}
use Rattle.flow_terms.specs.declared.few.Few.TheVariants.{Zero, One}
use Rattle.flow_terms.specs.Few.{values_of}
use Rattle.cold_flow.specs.declared.cause.Cause.{Cause}
use Rattle.cold_flow.specs.declared.cause.Cause.TheVariants.{Finished, Failed, Cancelled, Refused}
use Rattle.cold_flow.specs.Trace.{Trace, led_by}
use Rattle.more_operators.specs.declared.operators.on_empty.Defaulting.{Defaulting}
use Rattle.more_operators.specs.declared.operators.onward.Onward.{Onward}
use Rattle.more_operators.specs.declared.operators.onward.Onward.TheVariants.{More}
use Rattle.cold_flow.specs.Poll.{Traces, Makes, MakesExactly}
use Rattle.more_operators.specs.Relayed.{relayed, relayed_end, relayed_trace}
use Rattle.more_operators.specs.RelayedLaws.{makes-same, exactly-same}
use Rattle.more_operators.specs.Retry.{behind}

-- the trace, and these values where it finishes with none
abbrev pub or_else : {A E : Type 0} → Few A → Trace A E → Trace A E
or_else values ([], end) = relayed_end (values_of values) end
or_else values (x ∷ xs, end) = (x ∷ xs, end)

-- each value passes
abbrev pub passes_on : {S A : Type 0} → S → A → Onward A
passes_on s x = More (One x)

module _ {A E : Type 0} where
  pub nothing-added : (end : Option (Cause E)) → relayed_end {B = A} [] end ≡ ([], end)
  nothing-added None = refl
  nothing-added (Some Finished) = refl
  nothing-added (Some (Failed f)) = refl
  nothing-added (Some Cancelled) = refl
  nothing-added (Some (Refused r)) = refl

  -- what passes each value on, and adds nothing to any end, is the trace itself
  pub unchanged : {M : Type 0} (after : M → A → M) (relay : M) (xs : List A) (end : Option (Cause E))
      → relayed passes_on after (λ _. Zero) relay xs end ≡ (xs, end)
  unchanged after relay [] end = nothing-added end
  unchanged after relay (x ∷ xs) end = ap (led_by x) (unchanged after (after relay x) xs end)

-- how the operator stands after a value, and what it gives where the source has finished
abbrev pub default_after : {A : Type 0} → Defaulting A → A → Defaulting A
default_after s x = record { values = s.values; is_empty = false }

abbrev pub default_closes : {A : Type 0} → Defaulting A → Few A
default_closes s = if s.is_empty then s.values else Zero

module _ {A E : Type 0} where
  -- a value came
  default-given : (s : Defaulting A) → s.is_empty ≡ false → (xs : List A) (end : Option (Cause E))
      → relayed passes_on default_after default_closes s xs end ≡ (xs, end)
  default-given s is [] end =
      ap (λ (b : Bool). relayed_end (values_of (if b then s.values else Zero)) end) is ∙ nothing-added end
  default-given s is (x ∷ xs) end = ap (led_by x) (default-given (default_after s x) refl xs end)

  pub default-trace : (values : Few A) (t : Trace A E)
      → relayed_trace passes_on default_after default_closes (record { values = values; is_empty = true }) t ≡ or_else values t
  default-trace values ([], end) = refl
  default-trace values (x ∷ xs, end) = ap (led_by x) (default-given (record { values = values; is_empty = false }) refl xs end)

-- ---- what the builders make

module _ {M A E : Type 0} (after : M → A → M) (relay : M) (first : Few A) (source made : Traces A E) where
  -- some values, and then what passes each value on
  started : (t : Trace A E) → behind (values_of first) (relayed_trace passes_on after (λ _. Zero) relay t) ≡ behind (values_of first) t
  started t = ap (behind (values_of first)) (unchanged after relay t.0 t.1)

  pub start_makes : Makes (λ t. behind (values_of first) (relayed_trace passes_on after (λ _. Zero) relay t)) source made
      → Makes (behind (values_of first)) source made
  start_makes = makes-same _ (behind (values_of first)) started source made

  pub start_exactly : MakesExactly (λ t. behind (values_of first) (relayed_trace passes_on after (λ _. Zero) relay t)) source made
      → MakesExactly (behind (values_of first)) source made
  start_exactly = exactly-same _ (behind (values_of first)) started source made

module _ {A E : Type 0} (values : Few A) (source made : Traces A E) where
  pub empty_makes : Makes (relayed_trace passes_on default_after default_closes (record { values = values; is_empty = true })) source made
      → Makes (or_else values) source made
  empty_makes = makes-same _ (or_else values) (default-trace values) source made

  pub empty_exactly : MakesExactly (relayed_trace passes_on default_after default_closes (record { values = values; is_empty = true })) source made
      → MakesExactly (or_else values) source made
  empty_exactly = exactly-same _ (or_else values) (default-trace values) source made
