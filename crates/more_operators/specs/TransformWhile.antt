-- What `transform_while` makes of a source.
use Rattle.std.specs.Prelude.{◌≡◌, List, [], ◌∷◌, Option}
use Rattle.std.proofs.Common.{ap}
use Rattle.flow_terms.specs.declared.few.Few.TheVariants.{Zero}
use Rattle.cold_flow.specs.declared.cause.Cause.{Cause}
use Rattle.cold_flow.specs.Trace.{Trace}
use Rattle.more_operators.specs.declared.operators.onward.Onward.{Onward}
use Rattle.cold_flow.specs.Poll.{Traces, Makes, MakesExactly}
use Rattle.more_operators.specs.Relayed.{relayed, relayed_on, relayed_trace}
use Rattle.more_operators.specs.RelayedLaws.{makes-same, exactly-same}
use Rattle.more_operators.specs.Empty.{nothing-added}

-- the answers of g joined in order, up to the first `Stop`, and then the end; the source's end, where there is none
abbrev pub joined_while : {A B E : Type 0} → (A → Onward B) → List A → Option (Cause E) → Trace B E
joined_while g [] end = ([], end)
joined_while g (x ∷ xs) end = relayed_on (g x) (joined_while g xs end)

abbrev pub transform_while_trace : {A B E : Type 0} → (A → Onward B) → Trace A E → Trace B E
transform_while_trace g t = joined_while g t.0 t.1

-- one that stands as before after each value
pub joined : {M A B E : Type 0} (takes : M → A → Onward B) (relay : M) (xs : List A) (end : Option (Cause E))
    → relayed takes (λ s _. s) (λ _. Zero) relay xs end ≡ joined_while (takes relay) xs end
joined takes relay [] end = nothing-added end
joined takes relay (x ∷ xs) end = ap (relayed_on (takes relay x)) (joined takes relay xs end)

module _ {M A B E : Type 0} (takes : M → A → Onward B) (relay : M) (source : Traces A E) (made : Traces B E) where
  pub while_makes : Makes (relayed_trace takes (λ s _. s) (λ _. Zero) relay) source made → Makes (transform_while_trace (takes relay)) source made
  while_makes = makes-same _ (transform_while_trace (takes relay)) (λ t. joined takes relay t.0 t.1) source made

  pub while_exactly : MakesExactly (relayed_trace takes (λ s _. s) (λ _. Zero) relay) source made
      → MakesExactly (transform_while_trace (takes relay)) source made
  while_exactly = exactly-same _ (transform_while_trace (takes relay)) (λ t. joined takes relay t.0 t.1) source made
