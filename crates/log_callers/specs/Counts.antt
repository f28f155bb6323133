-- What a counter has added up.
use Rattle.std.specs.Prelude.{◌≡◌, ℕ, List, [], ◌∷◌, ◌++◌, map, sum}
use Rattle.flow_terms.specs.declared.refusal.Refusal.TheVariants.{Spent}
use Rattle.shared_flow.specs.Parties.{Emitting}
use Rattle.shared_flow.specs.Emitted.{Emissions, Outcome, refused, emitted, accepted_words}

-- Meanwhile the emitter emitted these words, in order, and this is the sum of those that were accepted.
pub record Counts (e : Emitting) (words : List ℕ) (f : Emitting) (total : ℕ) : Type 0 where
  pub meanwhile : Emissions
  pub has : emitted f ≡ emitted e ++ meanwhile
  pub words_are : map (λ (x : ℕ × Outcome). x.0) meanwhile ≡ words
  pub total_is : total ≡ sum (accepted_words meanwhile)

-- Meanwhile it emitted the first of these words, and then the next one, which was refused.
pub record StopsAt (e : Emitting) (words : List ℕ) (f : Emitting) : Type 0 where
  pub meanwhile : Emissions
  pub word : ℕ
  pub later : List ℕ
  pub has : emitted f ≡ emitted e ++ (meanwhile ++ (word, refused Spent) ∷ [])
  pub words_are : map (λ (x : ℕ × Outcome). x.0) meanwhile ++ word ∷ later ≡ words
