-- Which polls were made of a run, as its `polled` and `cancelled` tell.
use Rattle.std.specs.Prelude.{◌≡◌, ℕ, Bool, IsTrue, ◌+◌, ◌≤◌, ◌⊎◌, List, [], ◌∷◌, ◌++◌, length}
use Rattle.std.specs.Prelude.{Option, Some, None, Result, Ok, Err, MatchResult}
use Rattle.std.specs.Iterator.{Count, IsFinite, size}
use Rattle.futures.specs.declared.task.Poll.{Poll}
use Rattle.futures.specs.declared.task.Poll.TheVariants.{Ready, Pending}
use Rattle.cold_flow.specs.declared.cause.Cause.{Cause}
use Rattle.cold_flow.specs.declared.event.Event.{Event}
use Rattle.cold_flow.specs.declared.event.Event.TheVariants.{Value, End}
use Rattle.flow_terms.specs.declared.refusal.Refusal.{Refusal}
use Rattle.cold_flow.specs.declared.ends.collect.Collected.{Collected}
use Rattle.cold_flow.specs.declared.ends.collect.Gathering.{Gathering}
use Rattle.cold_flow.specs.declared.ends.collect.Gathering.TheVariants.{Going, Done, Lacking}
use Rattle.cold_flow.specs.Fold.{folded}

-- A poll that comes once the run has ended, or was cancelled, asks no source: what was one is just as it was. A run whose source may be
-- any can keep that only by not asking.
abbrev pub Rests : {E S : Type 0} → Option (Cause E) → S → S → Type 0
Rests {E} ended old new = (k : Cause E) → ended ≡ Some k → new ≡ old

-- its last poll answered pending
abbrev pub HasWaited : {R A E : Type 0} → (R → Poll (Event A E) → R → Type 0) → R → Type 0
HasWaited {R} polled r = (before : R) × polled before Pending r

-- it was cancelled, and no source of it is asked any more
abbrev pub WasCancelled : {R : Type 0} → (R → R → Type 0) → (R → Bool) → R → Type 0
WasCancelled {R} cancelled stopped r = (after : R) × cancelled r after × IsTrue (stopped after)

-- n answers that were nothing to the caller brought the end nearer, where that is known to come
abbrev pub IsNearer : ℕ → Count → Count → Type 0
IsNearer n old new = IsFinite old → IsFinite new × (size new + n ≤ size old)

-- polls of the run gave these values, one after another, and then it stood so
pub data Gave {R A E : Type 0} (polled : R → Poll (Event A E) → R → Type 0) : R → List A → R → Type 0 where
  nothing : {r : R} → Gave polled r [] r
  one_more : {r s t : R} {xs ys : List A} (x : A) → Gave polled r xs s → polled s (Ready (Value x)) t → ys ≡ xs ++ x ∷ [] → Gave polled r ys t
  waited : {r s t : R} {xs : List A} → Gave polled r xs s → polled s Pending t → Gave polled r xs t

module _ {R A E : Type 0} (polled : R → Poll (Event A E) → R → Type 0) where
  -- these values were given, and then the run answered pending, or they are 64
  abbrev pub Pauses : R → List A → R → Type 0
  Pauses old xs new = ((before : R) × Gave polled old xs before × polled before Pending new) ⊎ (Gave polled old xs new × (length xs ≡ 64))

  -- these values were given, and then the end
  abbrev pub GaveAll : R → List A → Cause E → R → Type 0
  GaveAll old xs cause new = (before : R) × Gave polled old xs before × polled before (Ready (End cause)) new

  -- these values were given, and then one more, with which the run was cancelled
  abbrev pub BreaksOff : (R → R → Type 0) → R → List A → R → Type 0
  BreaksOff cancelled old xs new =
      (before : R) × (after : R) × (x : A) × Gave polled old xs before × polled before (Ready (Value x)) after × cancelled after new

  -- it was cancelled after some values, and no source of it is asked any more
  abbrev pub GivesUp : (R → R → Type 0) → (R → Bool) → R → Type 0
  GivesUp cancelled stopped old = (xs : List A) × (new : R) × BreaksOff cancelled old xs new × IsTrue (stopped new)

  -- what `to_list` asked: the run until its end, all of whose values it has then, or the run was given up, where memory lacked
  abbrev pub TakesAll : (R → R → Type 0) → (R → Bool) → R → Result (Collected A E) Refusal → Type 0
  TakesAll cancelled stopped run result =
      MatchResult result (λ d. (after : R) × GaveAll run d.values.items d.cause after) (λ _. GivesUp cancelled stopped run)

  -- What a poll of `collect` asked, and what it has then: all values that were given, behind the ones before. Nothing is asked once it is ready.
  abbrev pub Takes : (R → R → Type 0) → Gathering E → List A → R → Poll (Result (Collected A E) Refusal) → List A → R → Type 0
  Takes cancelled Going values old Pending more new = (xs : List A) × (more ≡ values ++ xs) × Pauses old xs new
  Takes cancelled Going values old (Ready (Ok d)) more new = (xs : List A) × (d.values.items ≡ values ++ xs) × GaveAll old xs d.cause new
  Takes cancelled Going values old (Ready (Err e)) more new = (xs : List A) × (more ≡ values ++ xs) × BreaksOff cancelled old xs new
  Takes cancelled (Done k) values old result more new = new ≡ old
  Takes cancelled Lacking values old result more new = new ≡ old

  -- the same of a poll of `fold`, whose state is what g makes of all of them
  abbrev pub TakesInto : {S : Type 0} → (S × A → S) → Option (Cause E) → S → R → Poll (S × Cause E) → S → R → Type 0
  TakesInto g None state old Pending next new = (xs : List A) × (next ≡ folded g state xs) × Pauses old xs new
  TakesInto g None state old (Ready (last, k)) next new = (xs : List A) × (next ≡ folded g state xs) × GaveAll old xs k new
  TakesInto g (Some k) state old result next new = new ≡ old

  -- what a poll of `first` asked: the run once, which was cancelled with its value; nothing, once it has an answer
  abbrev pub TakesOne : (R → R → Type 0) → Option (Result A (Cause E)) → R → Poll (Result A (Cause E)) → R → Type 0
  TakesOne cancelled None old Pending new = polled old Pending new
  TakesOne cancelled None old (Ready (Ok x)) new = (after : R) × polled old (Ready (Value x)) after × cancelled after new
  TakesOne cancelled None old (Ready (Err k)) new = polled old (Ready (End k)) new
  TakesOne cancelled (Some r) old result new = new ≡ old
