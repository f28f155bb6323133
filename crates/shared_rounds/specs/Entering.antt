-- What an owner finds as it takes the lock, and the round that it makes of that.
use Rattle.std.specs.Prelude.{◌≡◌, ℕ, ◌++◌, [], ◌∷◌, Option, Some, None}
use Rattle.flow_terms.specs.Lists.{IsPrefix}
use Rattle.round_lock.specs.History.{After, KnowsTaken, own_of}
use Rattle.shared_lane.specs.Sequencers.{OnlyLoaded, next}
use Rattle.shared_rounds.specs.declared.round.Round.{Round}
use Rattle.shared_rounds.specs.Names.{SharedSeen, IsNew}
use Rattle.shared_rounds.specs.Reach.{Party, Reach, Rounds, with_round}
use Rattle.shared_rounds.specs.Rounds.{Comes, Does}
use Rattle.shared_rounds.specs.Waking.{FallsAsleep, ended_by, taken_by}

-- what some list of rounds left of a new flow
abbrev pub IsLeftBy : SharedSeen → Rounds → SharedSeen → Type 0
IsLeftBy = After IsNew Does

-- What an owner found: the list of rounds that it has seen now left it of a new flow, which is the owner's. The owner's own rounds are
-- its part of that list, which begins with what it had seen before. So are the rounds of those that it took in; and where it has the
-- whole lock with them, they made each round
pub record Found (p : Party) (found : SharedSeen) (seen : Rounds) : Type 0 where
  pub made : SharedSeen
  pub flow_is : p.flow ≡ Some made.name
  pub after : IsLeftBy made seen found
  pub rounds_are : p.rounds ≡ own_of p.pass seen
  pub seen_on : IsPrefix p.seen seen
  pub taken_in : KnowsTaken p.pass p.rounds p.halved p.taken seen

-- the owner has the lock, and a call that it made of what it found has come to this; the next number was `before` as it was found
abbrev pub IsCalled : Reach → ℕ → Round → SharedSeen → Type 0
IsCalled r before round called = (found : SharedSeen) × (r.held ≡ Some found) × Comes found round called × FallsAsleep found round called × (before ≡ next found.sequencer)

-- the same of the round that a step of the lock picks, and which ended this subscription, and took this ticket back
abbrev pub IsCalledAs : Reach → ℕ → Option Round → Option ℕ → Option ℕ → SharedSeen → Type 0
IsCalledAs r before picked ended taken called = (round : Round) × (picked ≡ Some round) × (ended ≡ ended_by round) × (taken ≡ taken_by round) × IsCalled r before round called

-- the owner has the lock no more: its rounds, and what it has seen, grew by this one, which left this
abbrev pub left_with : Round → SharedSeen → Reach → Reach
left_with round left r = record r { held = None; rounds = r.rounds ++ round ∷ []; seen = r.seen ++ (r.pass, round, left) ∷ [] }

-- the owner had taken the lock, made a round of what it found, and gave the lock back, with what the call had come to but for looks at
-- the cursors
pub record Left (round : Round) (called : SharedSeen) (r s : Reach) : Type 0 where
  pub found : SharedSeen
  pub left : SharedSeen
  pub held : r.held ≡ Some found
  pub does : Does found round left
  pub only : OnlyLoaded called.sequencer left.sequencer
  pub after : s ≡ left_with round left r

-- the same of the round that was picked
abbrev pub LeftAs : Option Round → SharedSeen → Reach → Reach → Type 0
LeftAs picked called r s = (round : Round) → picked ≡ Some round → Left round called r s

-- A party made a round. The list of rounds before it left what it found, and has the party's own rounds as its part; the round left
-- this of that, and is the next of the list
pub record Made (round : Round) (p q : Party) : Type 0 where
  pub found : SharedSeen
  pub left : SharedSeen
  pub before : Rounds
  pub saw : Found p found before
  pub does : Does found round left
  pub after : q ≡ with_round round (before ++ (p.pass, round, left) ∷ []) p

-- A party that had the lock, and so had seen all rounds before, made one, which left the sequencer that the call had come to, but for
-- looks at the cursors.
pub record MadeOf (called : SharedSeen) (round : Round) (p q : Party) : Type 0 where
  pub made : Made round p q
  pub before_is : made.before ≡ p.seen
  pub only : OnlyLoaded called.sequencer made.left.sequencer
