-- What is gathered of a run.
use Rattle.std.specs.Prelude.{◌≡◌, List, [], ◌++◌, Result, Ok, Err}
use Rattle.futures.specs.declared.task.Poll.{Poll}
use Rattle.futures.specs.declared.task.Poll.TheVariants.{Ready, Pending}
use Rattle.cold_flow.specs.declared.cause.Cause.{Cause}
use Rattle.flow_terms.specs.declared.refusal.Refusal.{Refusal}
use Rattle.flow_terms.specs.declared.refusal.Refusal.TheVariants.{NoMemory}
use Rattle.cold_flow.specs.declared.ends.collect.Collected.{Collected}
use Rattle.cold_flow.specs.declared.ends.collect.Gathering.{Gathering}
use Rattle.cold_flow.specs.declared.ends.collect.Gathering.TheVariants.{Going, Done, Lacking}
use Rattle.cold_flow.specs.Trace.{Trace, ended_by, so_far}
use Rattle.cold_flow.specs.Poll.{Traces, Within}

-- the values so far, and then what the run may give
pub record Gathered {A E : Type 0} (values : List A) (rest : Traces A E) (t : Trace A E) : Type 0 where
  pub given : Trace A E
  pub came : rest given
  pub is : t ≡ (values ++ given.0, given.1)

-- an empty list with the same cause
abbrev pub IsAgain : {A E : Type 0} → Cause E → Poll (Result (Collected A E) Refusal) → Type 0
IsAgain k (Ready (Ok d)) = (d.values.items ≡ []) × (d.cause ≡ k)
IsAgain k (Ready (Err e)) = ⊥
IsAgain k Pending = ⊥

-- What a poll answers, and what it leaves: of a run that goes on, of one that was gathered, and of one that memory lacked for.
-- Before it, values were gathered, and the run could still give the traces of old.
abbrev pub GathersTo : {A E : Type 0} → Gathering E → List A → Traces A E → Poll (Result (Collected A E) Refusal)
    → Gathering E → List A → Traces A E → Type 0
GathersTo Going values old Pending state more new = (state ≡ Going) × Within (Gathered values old) (Gathered more new)
GathersTo Going values old (Ready (Ok d)) state more new = (state ≡ Done d.cause) × (more ≡ []) × Gathered values old (ended_by d.values.items d.cause)
GathersTo Going values old (Ready (Err e)) state more new = (state ≡ Lacking) × (e ≡ NoMemory) × Gathered values old (so_far more)
GathersTo (Done k) values old result state more new = (state ≡ Done k) × (more ≡ values) × IsAgain k result
GathersTo Lacking values old result state more new = (state ≡ Lacking) × (more ≡ values) × (result ≡ Ready (Err NoMemory))
