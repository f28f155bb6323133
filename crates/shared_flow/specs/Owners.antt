-- What contracts see of an owner of a flow, and of one whose lock is kept.
use Rattle.std.specs.Prelude.{◌≡◌, ◌⊎◌, ◌++◌, ℕ, List, [], Option, Some, None, Ok, Err, map}
use Rattle.flow_terms.specs.declared.refusal.Refusal.{Refusal}
use Rattle.flow_terms.specs.declared.refusal.Refusal.TheVariants.{NoMemory}
use Rattle.round_lock.specs.History.{own_of}
use Rattle.shared_lane.specs.Sequencers.{OnlyLoaded, next}
use Rattle.shared_lane.specs.declared.reader.Met.{Met}
use Rattle.shared_rounds.specs.declared.round.Round.TheVariants as round
use Rattle.shared_rounds.specs.Names.{SharedSeen}
use Rattle.shared_rounds.specs.Reach.{Party, Rounds, with_round}
use Rattle.shared_rounds.specs.Rounds.{Comes, IsAtLimit}
use Rattle.shared_rounds.specs.Waking.{SleepOn}
use Rattle.shared_flow.specs.Parties.{Subscribed, sharing_of}
use Rattle.shared_rounds.specs.Entering.{Found, Made}
use Rattle.shared_rounds.specs.Meeting.{HasMet, OnlyMet}

-- an owner: its flow and its rounds, and what it found under the lock, while the lock is kept
pub record Owning : Type 0 where
  pub party : Party
  pub held : Option SharedSeen

-- an owner that doesn't have the lock
abbrev pub at_rest : Party → Owning
at_rest p = record { party = p; held = None }

-- an owner that doesn't have the lock, and has made no call, and of whose share so many halves were given away
abbrev pub HasMadeNoCall : ℕ → Owning → Type 0
HasMadeNoCall halved o = (o ≡ at_rest o.party) × (o.party.rounds ≡ []) × (o.party.halved ≡ halved)

-- what lies under a lock that is kept, and what was found as it was taken: how many subscriptions were live, and the next number
pub record Keeping : Type 0 where
  pub count : ℕ
  pub before : ℕ
  pub shared : SharedSeen

-- The owner has the lock: what lies under it is its flow's, and is what the round with this count has made of what it found, which the
-- list of rounds that it has seen had left.
abbrev pub KeepsLock : Owning → Keeping → Type 0
KeepsLock o k = (o.party.flow ≡ Some k.shared.name)
    × ((old : SharedSeen) × (o.held ≡ Some old) × Comes old (round.Hold k.count) k.shared × SleepOn old k.shared × (k.before ≡ next old.sequencer) × Found o.party old o.party.seen)

abbrev pub IsKept : Keeping → Keeping → Type 0
IsKept k l = (l.count ≡ k.count) × (l.before ≡ k.before) × OnlyMet k.shared l.shared

-- nobody was admitted: without memory the owner made no call, else its round was refused, which it made while who was to be admitted had
-- half its share
abbrev pub IsLeftOut : Owning → Refusal → Owning → Type 0
IsLeftOut o refusal p = ((refusal ≡ NoMemory) × (p ≡ o))
    ⊎ (IsAtLimit refusal × (p ≡ at_rest (with_round (round.Subscribe (Err refusal)) p.party.seen o.party)) × Made (round.Subscribe (Err refusal)) (sharing_of o.party) (sharing_of p.party))

-- the values of the replay cache were added to a list, and the owner's round has their words
abbrev pub AddsCache : {T : Type 0} → (ℕ → T) → Owning → List T → Owning → List T → Type 0
AddsCache read_as o old p new = (words : List ℕ) × (new ≡ old ++ map read_as words)
    × (p ≡ at_rest (with_round (round.Cache (Ok words)) p.party.seen o.party)) × Made (round.Cache (Ok words)) o.party p.party

-- A party has heard of all rounds of this list, and its own are its part of that.
pub record HasHeard (list : Rounds) (p q : Party) : Type 0 where
  pub part : p.rounds ≡ own_of p.pass list
  pub same : q ≡ record p { seen = list }

-- An owner met a subscription, in a round. The subscription has heard of all rounds before that; and what its reader has seen, and the
-- counts, are those of what that round left, but for looks at the cursors.
pub record Meets {T : Type 0} (p q : Party) (s t : Subscribed T) (met : Met) : Type 0 where
  pub count : ℕ
  pub made : Made (round.Hold count) p q
  pub heard : HasHeard made.before s.party t.party
  pub same : (t.number ≡ s.number) × (t.rest ≡ s.rest)
  pub kept : SharedSeen
  pub only : OnlyLoaded kept.sequencer made.left.sequencer
  pub has_met : HasMet kept.sequencer s.reader t.reader met
