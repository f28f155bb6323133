-- What an end answers of a run.
use Rattle.std.specs.Prelude.{◌≡◌, ◌⊎◌, List, [], ◌∷◌, ◌++◌, Option, Some, None, Result, Ok, Err}
use Rattle.futures.specs.declared.task.Poll.{Poll}
use Rattle.futures.specs.declared.task.Poll.TheVariants.{Ready, Pending}
use Rattle.cold_flow.specs.declared.cause.Cause.{Cause}
use Rattle.cold_flow.specs.declared.cause.Cause.TheVariants.{Finished, Failed, Cancelled, Refused}
use Rattle.cold_flow.specs.declared.event.Event.{Event}
use Rattle.cold_flow.specs.declared.event.Event.TheVariants.{Value}
use Rattle.cold_flow.specs.Trace.{Trace}
use Rattle.cold_flow.specs.Poll.{Traces, Within}
use Rattle.cold_flow.specs.Fold.{Past}
use Rattle.cold_flow.specs.Polled.{Gave, Pauses, GaveAll}

-- the answer where the run has ended so: last, where it has finished, and else the cause
abbrev pub closed_by : {B E : Type 0} → B → Cause E → Result B (Cause E)
closed_by last Finished = Ok last
closed_by last (Failed e) = Err (Failed e)
closed_by last Cancelled = Err Cancelled
closed_by last (Refused r) = Err (Refused r)

-- an answer that is certain with a value, and else that of the rest
abbrev pub decided_or : {B E : Type 0} → Option B → Option (Result B (Cause E)) → Option (Result B (Cause E))
decided_or (Some y) rest = Some (Ok y)
decided_or None rest = rest

module _ {D A B : Type 0} (decides : D → A → Option B) (after : D → A → D) (closes : D → B) where
  -- the answer of a trace, where it is certain by then
  abbrev pub decided : {E : Type 0} → D → List A → Option (Cause E) → Option (Result B (Cause E))
  decided decider [] None = None
  decided decider [] (Some k) = Some (closed_by (closes decider) k)
  decided decider (x ∷ xs) end = decided_or (decides decider x) (decided (after decider x) xs end)

  abbrev pub decided_trace : {E : Type 0} → D → Trace A E → Option (Result B (Cause E))
  decided_trace decider t = decided decider t.0 t.1

  -- these values settle nothing: what comes after them is answered as next answers it
  abbrev pub Leaves : (E : Type 0) → D → List A → D → Type 0
  Leaves E decider values next = (t : Trace A E) → decided_trace decider (values ++ t.0, t.1) ≡ decided_trace next t

  -- the run gave some values, which settled nothing, and new may come
  pub record GoesOn {E : Type 0} (decider : D) (old : Traces A E) (next : D) (new : Traces A E) : Type 0 where
    pub values : List A
    pub same : Leaves E decider values next
    pub rest : Within (Past values old) new

  -- What a poll answers, and what it leaves: of a run that goes on, and of one that was answered. The answer is that of a trace that
  -- the run could give.
  abbrev pub DecidesTo : {E : Type 0} → Option (Result B (Cause E)) → D → Traces A E → Poll (Result B (Cause E))
      → Option (Result B (Cause E)) → D → Traces A E → Type 0
  DecidesTo (Some r) decider old result answer next new = (result ≡ Ready r) × (answer ≡ Some r)
  DecidesTo {E} None decider old (Ready r) answer next new =
      (answer ≡ Some r) × ((t : Trace A E) × old t × (decided_trace decider t ≡ Some r))
  DecidesTo None decider old Pending answer next new = (answer ≡ None) × GoesOn decider old next new

  -- the run was polled for these values and one more, which settles it, and was cancelled with that
  pub record Settles {R E : Type 0} (polled : R → Poll (Event A E) → R → Type 0) (cancelled : R → R → Type 0)
      (decider : D) (old : R) (r : Result B (Cause E)) (new : R) : Type 0 where
    pub values : List A
    pub last : A
    pub before : R
    pub past : R
    pub gave : Gave polled old values before
    pub came : polled before (Ready (Value last)) past
    pub gave_up : cancelled past new
    pub answers : decided_trace {E = E} decider (values ++ last ∷ [], None) ≡ Some r

  -- the run was polled until its end
  pub record EndsWith {R E : Type 0} (polled : R → Poll (Event A E) → R → Type 0)
      (decider : D) (old : R) (r : Result B (Cause E)) (new : R) : Type 0 where
    pub values : List A
    pub cause : Cause E
    pub gave : GaveAll polled old values cause new
    pub answers : decided_trace decider (values, Some cause) ≡ Some r

  -- What a poll asked: the run, until a value settled it or the run ended. It is pending only where the run answered so, or 64 values
  -- settled nothing. Once it has an answer it asks nothing.
  abbrev pub TakesUntil : {R E : Type 0} → (R → Poll (Event A E) → R → Type 0) → (R → R → Type 0) → Option (Result B (Cause E))
      → D → R → Poll (Result B (Cause E)) → D → R → Type 0
  TakesUntil polled cancelled (Some r) decider old result next new = new ≡ old
  TakesUntil polled cancelled None decider old (Ready r) next new =
      Settles polled cancelled decider old r new ⊎ EndsWith polled decider old r new
  TakesUntil {E = E} polled cancelled None decider old Pending next new =
      (values : List A) × Leaves E decider values next × Pauses polled old values new
