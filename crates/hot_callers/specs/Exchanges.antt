-- What came of a flow into which one thread emitted, and from which another received.
use Rattle.std.specs.Prelude.{◌≡◌, ℕ, List, [], ◌∷◌, ◌++◌, None, Result, map}
use Rattle.flow_terms.specs.declared.refusal.Refusal.{Refusal}
use Rattle.flow_terms.specs.declared.answers.Tried.{Tried}
use Rattle.flow_terms.specs.Lists.{IsPrefix}
use Rattle.round_lock.specs.History.{HasAll, own_of}
use Rattle.shared_core.specs.declared.config.Config.{Config}
use Rattle.shared_core.specs.Story.{Interleaves}
use Rattle.shared_lane.specs.declared.reader.Met.{Met}
use Rattle.shared_rounds.specs.declared.round.Round.{Round}
use Rattle.shared_rounds.specs.declared.round.Round.TheVariants as round
use Rattle.shared_rounds.specs.Entering.{Made}
use Rattle.shared_flow.specs.Laws.{IsOneFlow, knowing}
use Rattle.shared_flow.specs.Lives.{Life, IsSubscriptionOf, ReceivesPreludeCacheThenLater, received_in}
use Rattle.shared_flow.specs.Looks.{WasEnded, WasAdmittedBy}
use Rattle.shared_rounds.specs.Names.{SharedSeen}
use Rattle.shared_flow.specs.Owners.{HasHeard, Meets}
use Rattle.shared_flow.specs.Parties.{Emitting, Subscribed, newcomer_of, received, sharing_of, taking_of}
use Rattle.shared_rounds.specs.Reach.{Party, Rounds}
use Rattle.hot_callers.specs.Receiving.{ReceivesOfBoth}
use Rattle.hot_callers.specs.SharedCalls.{HasTaken}

-- an emitter tried these words, one after another, each with an answer
abbrev pub AreTries : ℕ → List ℕ → List Round → Type 0
AreTries id [] rounds = rounds ≡ []
AreTries id (word ∷ words) rounds = (answer : Result (Tried ℕ) Refusal) × (more : List Round)
    × (rounds ≡ round.Try (record { emitter = id; word = word }) answer ∷ more) × AreTries id words more

-- a party is what it was, but for its rounds, and for the list of rounds that it has seen
abbrev pub IsSameParty : Party → Party → Type 0
IsSameParty p q = q ≡ record p { rounds = q.rounds; seen = q.seen }

-- the emitter's rounds grew by tries of these words, and nothing is in flight
abbrev pub TriesEach : List ℕ → Emitting → Emitting → Type 0
TriesEach words e f = (rounds : List Round) × AreTries e.id words rounds × (f.party.rounds ≡ e.party.rounds ++ rounds)
    × IsSameParty e.party f.party × (f.id ≡ e.id) × (f.ticket ≡ None)

-- what the subscription received meanwhile was added to a list, in order
abbrev pub TakesEach : List ℕ → Subscribed ℕ → List ℕ → Subscribed ℕ → Type 0
TakesEach before s after t = (values : List ℕ) × (after ≡ before ++ values) × (received (λ word. word) t ≡ received (λ word. word) s ++ values)

-- it took them turn by turn, and made no round
abbrev pub TakesInTurn : List ℕ → Subscribed ℕ → List ℕ → Subscribed ℕ → Type 0
TakesInTurn before s after t = (values : List ℕ) × (after ≡ before ++ values) × HasTaken s values t × (t.party ≡ s.party)

-- an owner met a subscription and an emitter, in one round: both have heard of all rounds before that, of which their own are a part
pub record MeetsBoth (p q : Party) (e f : Emitting) (s t : Subscribed ℕ) : Type 0 where
  pub counts : Met
  pub meets : Meets p q s t counts
  pub emitter : HasHeard meets.made.before e.party f.party
  pub only : f ≡ record e { party = f.party }

-- an owner ended a subscription and took it in for good, with its rounds and its share of the lock
pub record TakesIn (p q : Party) (s : Subscribed ℕ) : Type 0 where
  pub counts : Met
  pub left : Party
  pub ended : WasEnded s.number s.reader counts s.party left
  pub after : q ≡ taking_of left p

-- An owner ended a subscription and an emitter, and took both in for good. Then it made one more round, which tells it who made each.
pub record EndsBoth (p q : Party) (e : Emitting) (s : Subscribed ℕ) : Type 0 where
  pub then : Party
  pub takes_in : TakesIn p then s
  pub count : ℕ
  pub made : Made (round.Count count) (taking_of e.party then) q

-- so it did with two emitters
pub record EndsEmitters (p q : Party) (e d : Emitting) : Type 0 where
  pub count : ℕ
  pub made : Made (round.Count count) (taking_of d.party (taking_of e.party p)) q

-- Between these two moments of an owner a subscription was admitted, with half its share of the lock, took values that others emitted, met
-- the owner, and was ended. An emitter heard of all rounds before that meeting.
pub record ReceivesBetween (p q : Party) (prelude received : List ℕ) (emitter : Party) : Type 0 where
  pub began : Subscribed ℕ
  pub took : Subscribed ℕ
  pub met : Subscribed ℕ
  pub then : Party
  pub last : Party
  pub counts : Met
  pub is_newcomer : began.party ≡ newcomer_of began.party.pass p
  pub admission : WasAdmittedBy began.number began.reader (sharing_of p) then
  pub prelude_is : began.rest ≡ prelude
  pub takes : TakesInTurn [] began received took
  pub meets : Meets then last took met counts
  pub heard : emitter.rounds ≡ own_of emitter.pass meets.made.before
  pub takes_in : TakesIn last q met

-- an owner told two emitters, in one round: both have heard of all rounds before that, of which their own are a part
pub record TellsBoth (p q : Party) (e f : Emitting) (d g : Emitting) : Type 0 where
  pub count : ℕ
  pub made : Made (round.Hold count) p q
  pub first : HasHeard made.before e.party f.party
  pub second : HasHeard made.before d.party g.party
  pub only_first : f ≡ record e { party = f.party }
  pub only_second : g ≡ record d { party = g.party }

-- There is one list of rounds, which has left the flow as it is now, and ends with one of its owner, by which it met a subscription. Over
-- its life this received, beside what is left of its prelude and what is pending, its prelude, the replay cache at its start, and the
-- emissions that were accepted later in that list, in order and once, less just those that its policy dropped.
pub record Receives (config : Config) (prelude received : List ℕ) : Type 0 where
  pub made : SharedSeen
  pub config_is : made.name.config ≡ config
  pub before : Rounds
  pub owner : ℕ
  pub count : ℕ
  pub now : SharedSeen
  pub log : Rounds
  pub log_is : log ≡ before ++ (owner, round.Hold count, now) ∷ []
  pub is_one_flow : IsOneFlow made log now
  pub life : Life ℕ
  pub prelude_is : life.prelude ≡ prelude
  pub received_is : received_in (λ word. word) life.life_steps ≡ received
  pub is_subscription : IsSubscriptionOf made log now life
  pub receives : ReceivesPreludeCacheThenLater (λ word. word) life (knowing now life.reader)

-- the list goes on from another one by these rounds
abbrev pub GoesOnBy : List Round → Rounds → Rounds → Type 0
GoesOnBy rounds log list = (more : Rounds) × (list ≡ log ++ more) × (map (λ (t : ℕ × Round × SharedSeen). t.1) more ≡ rounds)

-- of these rounds those of one party are tries of these words, in order, by an emitter with this id
abbrev pub Emits : ℕ → List ℕ → Rounds → Type 0
Emits id words rounds = (pass : ℕ) × AreTries id words (own_of pass rounds)

-- One thread emitted these words, and another received: what came, with some others, is the prelude and then these words, each in its
-- order and once. So nobody else emitted, nothing is doubled, and nothing is out of order. What the others are, `receives` and `emits` tell:
-- what is left of the prelude, what is pending, what the policy dropped, and words that weren't accepted.
-- The flow's owner was the first one. Its share of the lock was halved twice, for the emitter and for the subscription, and it took both in:
-- so it has the whole lock, and there was nobody else. Of the list of rounds it has seen two since: the subscription's end, and its own last.
pub record Exchange (config : Config) (prelude words received : List ℕ) (owner : Party) : Type 0 where
  pub received_with_others_is_prelude_then_words : (others : List ℕ) × Interleaves received others (prelude ++ words)
  pub receives : Receives config prelude received
  pub emits : Emits 1 words receives.before
  pub seen : (number count : ℕ) × GoesOnBy (round.Cancel number ∷ round.Count count ∷ []) receives.log owner.seen
  pub halved : owner.halved ≡ 2
  pub has_all : HasAll owner.halved owner.taken

-- Two emitted, each in a thread, and a third received: what came, with some others, is the prelude and then, mixed, the words that both had
-- emitted until the subscription was ended, each emitter's in its order and once. The second emitted more later, of which nothing came.
-- The list of rounds that the owner saw in the end begins with the one up to the meeting, and has all that both emitted. The owner was the
-- first one. Its share of the lock was halved three times, for the emitters and for the subscription, and it took all three in: so it has the
-- whole lock, and there was nobody else.
pub record LateExchange (config : Config) (prelude first second late received : List ℕ) (owner : Party) : Type 0 where
  pub received_with_others_is_prelude_then_both : ReceivesOfBoth prelude first second received
  pub receives : Receives config prelude received
  pub rounds : Rounds
  pub goes_on : IsPrefix receives.log rounds
  pub emits_first : Emits 1 first rounds
  pub emits_second : Emits 2 (second ++ late) rounds
  pub seen : IsPrefix rounds owner.seen
  pub halved : owner.halved ≡ 3
  pub has_all : HasAll owner.halved owner.taken
