-- Values that are held until they are due.
use Rattle.std.specs.Prelude.{◌≡◌, ◌-◌, ◌/◌, ◌==◌, ℕ, Bool, true, false, not, IsTrue, List, [], ◌∷◌, Option, Some, None, nat_lt, if◌then◌else◌}
use Rattle.futures.specs.declared.task.Poll.{Poll}
use Rattle.futures.specs.declared.task.Poll.TheVariants.{Ready, Pending}
use Rattle.cold_flow.specs.declared.cause.Cause.{Cause}
use Rattle.cold_flow.specs.declared.cause.Cause.TheVariants.{Finished}
use Rattle.cold_flow.specs.declared.event.Event.{Event}
use Rattle.cold_flow.specs.declared.event.Event.TheVariants.{Value, End}
use Rattle.cold_flow.specs.Trace.{Trace}
use Rattle.cold_flow.specs.Poll.{Traces, Narrows, IsReady, end_of}
use Rattle.more_operators.specs.declared.operators.paced.Timestamped.{Timestamped}

abbrev pub held_at : {A : Type 0} → A → ℕ → Timestamped A
held_at x now = record { value = x; since = now }

-- the value that is held, once it is due: is_due says so of the moment at which it came and of the one now
abbrev pub due_at : {A : Type 0} → (ℕ → ℕ → Bool) → ℕ → Option (Timestamped A) → Option A
due_at is_due now None = None
due_at is_due now (Some held) = if is_due held.since now then Some held.value else None

-- the value that is held, where the source has finished, and else the end
abbrev pub let_out : {A E : Type 0} → Option (Timestamped A) → Cause E → Event A E
let_out None k = End k
let_out (Some held) Finished = Value held.value
let_out (Some held) k = End k

-- what an end of the source lets out, where a value that isn't due yet is given at the end, and where it is lost
abbrev pub last_event : {A E : Type 0} → Bool → Option (Timestamped A) → Cause E → Event A E
last_event gives_last held k = if gives_last then let_out held k else End k

-- What a poll makes of the source's answer: what it answers, and what is held then. A value is held from now on, in place of the one
-- before.
abbrev pub Answers : {A E : Type 0} → Bool → ℕ → Option (Timestamped A) → Poll (Event A E) → Poll (Event A E) → Option (Timestamped A) → Type 0
Answers gives_last now held (Ready (Value x)) result kept = (result ≡ Pending) × (kept ≡ Some (held_at x now))
Answers gives_last now held (Ready (End k)) result kept = (result ≡ Ready (last_event gives_last held k)) × (kept ≡ None)
Answers gives_last now held Pending result kept = (result ≡ Pending) × (kept ≡ held)

module _ {A E S : Type 0} (may : S → Traces A E) (ended : S → Option (Cause E)) (prompt : S → Bool) (polled : S → Poll (Event A E) → S → Type 0) where
  -- the source was asked, and gave this answer
  pub record Asked (old : S) (answer : Poll (Event A E)) (new : S) : Type 0 where
    pub narrows : Narrows (may old) answer (may new)
    pub ends : ended new ≡ end_of answer
    pub at_once : IsTrue (prompt old) → IsReady answer × IsTrue (prompt new)
    pub so : polled old answer new

  -- What a poll does: it gives what is due, or lets out what the source's end does, and asks the source only where there is neither.
  abbrev pub Paces : Bool → ℕ → Option A → Option (Cause E) → Option (Timestamped A) → S → Poll (Event A E) → Option (Timestamped A) → S → Type 0
  Paces gives_last now (Some x) over held old result kept new = (result ≡ Ready (Value x)) × (kept ≡ None) × (new ≡ old)
  Paces gives_last now None (Some k) held old result kept new = (result ≡ Ready (last_event gives_last held k)) × (kept ≡ None) × (new ≡ old)
  Paces gives_last now None None held old result kept new =
      (answer : Poll (Event A E)) × Asked old answer new × Answers gives_last now held answer result kept

-- ---- over a source that gives one whole trace, and never answers pending

-- what a poll answers, what is held then, and what is left of the trace
abbrev pub step : {A E : Type 0} → Bool → ℕ → Option A → Option (Timestamped A) → Trace A E → Poll (Event A E) × Option (Timestamped A) × Trace A E
step gives_last now (Some x) held t = (Ready (Value x), None, t)
step gives_last now None held (x ∷ xs, end) = (Pending, Some (held_at x now), (xs, end))
step gives_last now None held ([], Some k) = (Ready (last_event gives_last held k), None, ([], Some k))
step gives_last now None held ([], None) = (Pending, held, ([], None))

-- an answer that gave something, with its moment
abbrev pub given_at : {A E : Type 0} → ℕ → Poll (Event A E) → List (ℕ × Event A E) → List (ℕ × Event A E)
given_at now (Ready event) rest = (now, event) ∷ rest
given_at now Pending rest = rest

-- what is given at these moments
abbrev pub paced : {A E : Type 0} → (ℕ → ℕ → Bool) → Bool → Option (Timestamped A) → Trace A E → List ℕ → List (ℕ × Event A E)
paced is_due gives_last held t [] = []
paced is_due gives_last held t (now ∷ moments) =
    let s = step gives_last now (due_at is_due now held) held t in given_at now s.0 (paced is_due gives_last s.1 s.2 moments)

-- ---- which values are due

-- of `debounce`: one after which none came for the timeout
abbrev pub is_quiet : ℕ → ℕ → ℕ → Bool
is_quiet timeout since now = not (nat_lt (now - since) timeout)

-- of `sample`: one whose window is over, where windows of the period begin one after another at the start
abbrev pub is_past : ℕ → ℕ → ℕ → ℕ → Bool
is_past period start since now = not ((since - start) / period == (now - start) / period)

-- What they give at these moments. A value that is held is given at the end by `debounce`, and lost by `sample`.
abbrev pub debounced : {A E : Type 0} → ℕ → Option (Timestamped A) → Trace A E → List ℕ → List (ℕ × Event A E)
debounced timeout = paced (is_quiet timeout) true

abbrev pub sampled : {A E : Type 0} → ℕ → ℕ → Option (Timestamped A) → Trace A E → List ℕ → List (ℕ × Event A E)
sampled period start = paced (is_past period start) false
