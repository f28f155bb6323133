-- What a run over a reader gives, and what the reader took meanwhile.
use Rattle.std.specs.Prelude.{◌≡◌, ◌⊎◌, ℕ, List, [], ◌∷◌, ◌++◌}
use Rattle.futures.specs.declared.task.Poll.{Poll}
use Rattle.futures.specs.declared.task.Poll.TheVariants.{Ready, Pending}
use Rattle.cold_flow.specs.declared.event.Event.{Event}
use Rattle.cold_flow.specs.declared.event.Event.TheVariants.{Value as Gives, End}
use Rattle.shared_lane.specs.Views.{ReaderSeen}
use Rattle.shared_lane.specs.declared.reader.Taken.TheVariants.{Value, Nothing, Overtaken}
use Rattle.shared_lane.specs.Readers.{IsSameReader, TookNext}

-- what a poll gave is what the reader took by one attempt; with an end it was asked nothing
abbrev pub Read : {E : Type 0} → ReaderSeen → Poll (Event ℕ E) → ReaderSeen → Type 0
Read r (Ready (Gives word)) t = IsSameReader r t × TookNext r (Value word) t
Read r (Ready (End k)) t = t ≡ r
Read r Pending t = IsSameReader r t × (TookNext r Nothing t ⊎ TookNext r Overtaken t)

-- the reader took these words, one after another, and no others
pub data Reads : ReaderSeen → List ℕ → ReaderSeen → Type 0 where
  none_taken : {r : ReaderSeen} → Reads r [] r
  taken_more : {r s t : ReaderSeen} {xs ys : List ℕ} (x : ℕ) → Reads r xs s → IsSameReader s t → TookNext s (Value x) t → ys ≡ xs ++ x ∷ [] → Reads r ys t
  tried_on : {r s t : ReaderSeen} {xs : List ℕ} → Reads r xs s → IsSameReader s t → TookNext s Nothing t ⊎ TookNext s Overtaken t → Reads r xs t
