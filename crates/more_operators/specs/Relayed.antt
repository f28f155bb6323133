-- What an operator makes of a source that gives up to four values for each value, and may finish before its source.
use Rattle.std.specs.Prelude.{ℕ, ◌<◌, ◌⊎◌, IsSome, List, [], ◌∷◌, Option, Some, None}
use Rattle.flow_terms.specs.declared.few.Few.{Few}
use Rattle.flow_terms.specs.declared.few.Few.TheVariants.{Zero}
use Rattle.flow_terms.specs.Few.{values_of, split}
use Rattle.cold_flow.specs.declared.cause.Cause.{Cause}
use Rattle.cold_flow.specs.declared.cause.Cause.TheVariants.{Finished, Failed, Cancelled, Refused}
use Rattle.cold_flow.specs.declared.operators.closing.Closing.{Closing}
use Rattle.cold_flow.specs.declared.operators.closing.Closing.TheVariants.{Open, Last, Over}
use Rattle.cold_flow.specs.Trace.{Trace, so_far, ended_by}
use Rattle.more_operators.specs.declared.operators.onward.Onward.{Onward}
use Rattle.more_operators.specs.declared.operators.onward.Onward.TheVariants.{More, Stop}
use Rattle.more_operators.specs.Retry.{behind}

-- what comes of an end of the source: last stands before `Finished` alone
abbrev pub relayed_end : {B E : Type 0} → List B → Option (Cause E) → Trace B E
relayed_end last None = so_far []
relayed_end last (Some Finished) = ended_by last Finished
relayed_end last (Some (Failed e)) = ended_by [] (Failed e)
relayed_end last (Some Cancelled) = ended_by [] Cancelled
relayed_end last (Some (Refused r)) = ended_by [] (Refused r)

-- the same, as what is held then, and how it stands to its source
abbrev pub held_at_end : {B E : Type 0} → Few B → Cause E → Few B
held_at_end last Finished = last
held_at_end last (Failed e) = Zero
held_at_end last Cancelled = Zero
held_at_end last (Refused r) = Zero

abbrev pub closing_at_end : {E : Type 0} → Cause E → Closing E
closing_at_end Finished = Last
closing_at_end (Failed e) = Over (Failed e)
closing_at_end Cancelled = Over Cancelled
closing_at_end (Refused r) = Over (Refused r)

-- what a value gives, and how the operator stands to its source then
abbrev pub given_by : {B : Type 0} → Onward B → Few B
given_by (More few) = few
given_by (Stop few) = few

abbrev pub closing_by : {B E : Type 0} → Onward B → Closing E
closing_by (More few) = Open
closing_by (Stop few) = Last

-- what a value gives, and then the rest, unless it finishes with that value
abbrev pub relayed_on : {B E : Type 0} → Onward B → Trace B E → Trace B E
relayed_on (More few) rest = behind (values_of few) rest
relayed_on (Stop few) rest = ended_by (values_of few) Finished

-- Something is given, or fewer values than before may give nothing from here on. Within 64 values one poll gives something.
abbrev pub GivesSoon : {B : Type 0} → ℕ → Few B → ℕ → Type 0
GivesSoon before given later = (before < 64) × (IsSome (split given) ⊎ (later < before))

module _ {M A B : Type 0} (takes : M → A → Onward B) (after : M → A → M) (closes : M → Few B) where
  -- where takes says what a value gives, after how it stands then, and closes what `Finished` gives
  abbrev pub relayed : {E : Type 0} → M → List A → Option (Cause E) → Trace B E
  relayed relay [] end = relayed_end (values_of (closes relay)) end
  relayed relay (x ∷ xs) end = relayed_on (takes relay x) (relayed (after relay x) xs end)

  abbrev pub relayed_trace : {E : Type 0} → M → Trace A E → Trace B E
  relayed_trace relay t = relayed relay t.0 t.1
