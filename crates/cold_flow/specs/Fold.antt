-- What is folded of a run.
use Rattle.std.specs.Prelude.{◌≡◌, List, ◌++◌, Option, Some, None}
use Rattle.std.specs.List.{fold}
use Rattle.futures.specs.declared.task.Poll.{Poll}
use Rattle.futures.specs.declared.task.Poll.TheVariants.{Ready, Pending}
use Rattle.cold_flow.specs.declared.cause.Cause.{Cause}
use Rattle.cold_flow.specs.declared.event.Event.{Event}
use Rattle.cold_flow.specs.declared.event.Event.TheVariants.{Value, End}
use Rattle.cold_flow.specs.Trace.{ended_by}
use Rattle.cold_flow.specs.Poll.{Traces, Within}

-- what g makes of a state and some values, one after another
abbrev pub folded : {A S : Type 0} → (S × A → S) → S → List A → S
folded g state values = fold (λ s x. g (s, x)) state values

-- the state after a poll: g takes a value in
abbrev pub state_after : {A E S : Type 0} → (S × A → S) → S → Poll (Event A E) → S
state_after g state (Ready (Value x)) = g (state, x)
state_after g state (Ready (End k)) = state
state_after g state Pending = state

-- what old may give, once these values were given
abbrev pub Past : {A E : Type 0} → List A → Traces A E → Traces A E
Past values old t = old (values ++ t.0, t.1)

-- the run gave some values, of which g made the new state, and new may come
pub record Folds {A E S : Type 0} (g : S × A → S) (state : S) (old : Traces A E) (next : S) (new : Traces A E) : Type 0 where
  pub values : List A
  pub made : next ≡ folded g state values
  pub rest : Within (Past values old) new

-- the run gave some values, of which g made the last state, and ended
pub record FoldsWhole {A E S : Type 0} (g : S × A → S) (state : S) (old : Traces A E) (last : S) (k : Cause E) : Type 0 where
  pub values : List A
  pub made : last ≡ folded g state values
  pub came : old (ended_by values k)

-- what a poll answers, and what it leaves: of a run that goes on, and of one that has ended
abbrev pub FoldsTo : {A E S : Type 0} → (S × A → S) → Option (Cause E) → S → Traces A E → Poll (S × Cause E)
    → Option (Cause E) → S → Traces A E → Type 0
FoldsTo g (Some k) state old result cause next new = (result ≡ Ready (state, k)) × (cause ≡ Some k) × (next ≡ state)
FoldsTo g None state old (Ready (last, k)) cause next new = (cause ≡ Some k) × (next ≡ last) × FoldsWhole g state old last k
FoldsTo g None state old Pending cause next new = (cause ≡ None) × Folds g state old next new
