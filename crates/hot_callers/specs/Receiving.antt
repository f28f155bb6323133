-- What a program has received of a flow into which it alone emitted.
use Rattle.std.specs.Prelude.{◌≡◌, ◌≢◌, ⊤, ℕ, List, [], ◌++◌, length, map}
use Rattle.std.specs.List.{AllByRecursion, range_with_len}
use Rattle.flow_terms.specs.declared.policy.Policy.{Policy}
use Rattle.flow_terms.specs.declared.policy.Policy.TheVariants.{DropOldest}
use Rattle.shared_core.specs.Flow.{values_at}
use Rattle.shared_core.specs.Headline.{EndsWith}
use Rattle.shared_core.specs.Story.{Interleaves}
use Rattle.shared_flow.specs.Emitted.{Emissions, Outcome, accepted_words, in_flight, withdrawn}

-- what became of a word is settled, and nobody withdrew it
abbrev pub IsSettled : Outcome → Type 0
IsSettled in_flight = ⊥
IsSettled withdrawn = ⊥
IsSettled _ = ⊤

abbrev pub AreSettled : Emissions → Type 0
AreSettled xs = AllByRecursion (λ (x : ℕ × Outcome). IsSettled x.1) xs

-- a list of emissions grew by these words, and what became of each is settled
abbrev pub WereTried : Emissions → List ℕ → Emissions → Type 0
WereTried old words new = (more : Emissions) × (new ≡ old ++ more) × (map (λ (x : ℕ × Outcome). x.0) more ≡ words) × AreSettled more

-- What was received, with some others, is the prelude and then, mixed, the words that two emitted, each one's in its order and once.
abbrev pub ReceivesOfBoth : List ℕ → List ℕ → List ℕ → List ℕ → Type 0
ReceivesOfBoth prelude first second received =
    (both others : List ℕ) × Interleaves first second both × Interleaves received others (prelude ++ both)

-- These words were emitted, each of which was accepted or wasn't. What was received, and then the rest, is the prelude and then the last of
-- the accepted words, in order and once, less those that the policy dropped.
pub record ReceivesItsOwn (policy : Policy) (prelude words received : List ℕ) : Type 0 where
  pub emissions : Emissions
  pub words_are : map (λ (x : ℕ × Outcome). x.0) emissions ≡ words
  pub last : List ℕ
  pub are_last : EndsWith last (accepted_words emissions)
  pub kept : List ℕ
  pub dropped : List ℕ
  pub rest : List ℕ
  pub received_then_rest : received ++ rest ≡ prelude ++ values_at last kept
  pub in_order_and_once : Interleaves kept dropped (range_with_len 0 (length last))
  pub only_drop_oldest_drops : policy ≢ DropOldest → dropped ≡ []
