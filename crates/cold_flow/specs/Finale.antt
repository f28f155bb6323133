-- Operators that change how their source ends.
use Rattle.std.specs.Prelude.{List, [], ◌++◌, Option, Some, None}
use Rattle.std.specs.Option.{option_to_list}
use Rattle.cold_flow.specs.declared.cause.Cause.{Cause}
use Rattle.cold_flow.specs.declared.cause.Cause.TheVariants.{Finished, Failed, Cancelled, Refused}
use Rattle.cold_flow.specs.declared.operators.catch_with.Caught.{Caught}
use Rattle.cold_flow.specs.declared.operators.catch_with.Caught.TheVariants.{End, Last, Fault}
use Rattle.cold_flow.specs.Trace.{Trace}

-- a last value, if any, and a cause
abbrev pub Finale : Type 0 → Type 0 → Type 0
Finale A E = Option A × Cause E

-- the values that a finale adds, and the cause that it ends by
abbrev pub added : {A E : Type 0} → (Cause E → Finale A E) → Option (Cause E) → List A
added finale None = []
added finale (Some k) = option_to_list (finale k).0

abbrev pub changed : {A E : Type 0} → (Cause E → Finale A E) → Option (Cause E) → Option (Cause E)
changed finale None = None
changed finale (Some k) = Some (finale k).1

-- the same values, and the finale in place of the end
abbrev pub with_finale : {A E : Type 0} → (Cause E → Finale A E) → Trace A E → Trace A E
with_finale finale t = (t.0 ++ added finale t.1, changed finale t.1)

-- what an answer of `catch_with` makes of a failure
abbrev pub caught_by : {A E : Type 0} → Caught A E → Finale A E
caught_by End = (None, Finished)
caught_by (Last v) = (Some v, Finished)
caught_by (Fault f) = (None, Failed f)

-- g decides how a failure ends; any other end stays
abbrev pub catching : {A E : Type 0} → (E → Caught A E) → Cause E → Finale A E
catching g Finished = (None, Finished)
catching g (Failed e) = caught_by (g e)
catching g Cancelled = (None, Cancelled)
catching g (Refused r) = (None, Refused r)

-- g may add a last value before `Finished`
abbrev pub completing : {A E : Type 0} → (Cause E → Option A) → Cause E → Finale A E
completing g Finished = (g Finished, Finished)
completing g (Failed e) = (None, Failed e)
completing g Cancelled = (None, Cancelled)
completing g (Refused r) = (None, Refused r)
