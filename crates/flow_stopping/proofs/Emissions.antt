-- An emission that is waited for, and may be let go.
use Rattle.std.proofs.Common.{◌≡◌, ℕ, [], ◌∷◌, ◌++◌, Result, Ok, Err, inr}
use Rattle.flow_terms.specs.declared.refusal.Refusal.{Refusal}
use Rattle.flow_terms.specs.declared.answers.Begun.TheVariants as begun
use Rattle.shared_rounds.specs.declared.round.Emission.{Emission}
use Rattle.shared_flow.specs.Parties.{Emitting}
use Rattle.shared_flow.specs.Emitters.{WasStarted}
use Rattle.shared_flow.specs.Emitted.{Emissions}
use Rattle.flow_stopping.specs.declared.answers.Emitted.{Emitted}
use Rattle.flow_stopping.specs.declared.answers.Emitted.TheVariants as emitted
use Rattle.flow_stopping.specs.Waits.{Emits, EndsAs, GrewByOne, outcome_of_wait}

-- it began to wait, and so it ended
pub waited_for : (e m f : Emitting) (emission : Emission) (answer : Result Emitted Refusal) → WasStarted e emission (Ok (begun.Waiting tt)) m
    → EndsAs m answer f → Emits e emission answer f
waited_for e m f emission (Ok (emitted.Accepted receipt)) started ends = inr (m, started, ends)
waited_for e m f emission (Ok emitted.Dropped) started ends = absurd ends
waited_for e m f emission (Ok emitted.Stopped) started ends = inr (m, started, ends)
waited_for e m f emission (Err refusal) started ends = inr (m, started, ends)

-- the list grew, whatever the answer is
pub grew_by_one : (old new : Emissions) (word : ℕ) (answer : Result Emitted Refusal) → new ≡ old ++ (word, outcome_of_wait answer) ∷ [] → GrewByOne old word answer new
grew_by_one old new word (Ok (emitted.Accepted receipt)) grew = grew
grew_by_one old new word (Ok emitted.Dropped) grew = grew
grew_by_one old new word (Ok emitted.Stopped) grew = inr grew
grew_by_one old new word (Err refusal) grew = grew
