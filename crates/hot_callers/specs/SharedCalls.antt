-- What callers of a shared flow between threads say of its parties.
use Rattle.std.specs.Prelude.{◌≡◌, ℕ, List, Some}
use Rattle.shared_lane.specs.Readers.{IsReaderOf}
use Rattle.shared_rounds.specs.declared.round.Round.TheVariants as round
use Rattle.shared_flow.specs.Lives.{LifeStep, LivesOn, received_in}
use Rattle.shared_rounds.specs.Names.{FlowName, SharedSeen}
use Rattle.shared_flow.specs.Parties.{Emitting, Subscribed, named}
use Rattle.shared_rounds.specs.Reach.{Party}
use Rattle.shared_rounds.specs.Rounds.{Comes}

-- it is the same subscription, at the same flow
abbrev pub IsSameSubscription : Subscribed ℕ → Subscribed ℕ → Type 0
IsSameSubscription old new = (named new.party ≡ named old.party) × (new.number ≡ old.number)

-- turn by turn the subscription received these values, those that were left of its prelude first, and no other
abbrev pub HasTaken : Subscribed ℕ → List ℕ → Subscribed ℕ → Type 0
HasTaken old values new = (life_steps : List (LifeStep ℕ)) × LivesOn old.rest old.reader life_steps new.rest new.reader × (received_in (λ word. word) life_steps ≡ values)

-- both are of one flow, whose lane the subscription reads
abbrev pub AreOfOneFlow : Emitting → Subscribed ℕ → Type 0
AreOfOneFlow e s = (name : FlowName) × (e.party.flow ≡ Some name) × (s.party.flow ≡ Some name) × IsReaderOf name.lane s.reader

-- at one moment, with the lock taken once, so many subscribed to the party's flow, and these were the words of its replay cache
abbrev pub WereAtOnce : Party → ℕ → List ℕ → Type 0
WereAtOnce p count words = (before now : SharedSeen) × (p.flow ≡ Some now.name) × Comes before (round.Hold count) now × (now.sequencer.cache ≡ words)
