-- What holds of a shared flow for every order of calls by any of its owners, emitters and subscriptions on threads.
use Rattle.std.specs.Prelude.{◌≡◌, ◌≢◌, ℕ, List, [], ◌∷◌, Option, Some}
use mathlib.Core.Option.{some}
use lib.ListN.{get_elem?}
use Rattle.std.specs.Global.{Box}
use Rattle.round_lock.specs.declared.log.Log.{Log}
use Rattle.round_lock.specs.History.{OneHistory, Parts, own_of, spent}
use Rattle.round_lock.specs.Law.{Lies, OneLock}
use Rattle.atomic_table.specs.Table.{State}
use Rattle.flow_terms.specs.Lists.{IsPrefix}
use Rattle.shared_lane.specs.Sequencers.{seen}
use Rattle.shared_lane.specs.Views.{ReaderSeen}
use Rattle.shared_lane.specs.declared.reader.Taken.{Taken}
use Rattle.shared_rounds.specs.declared.round.Round.{Round}
use Rattle.shared_rounds.specs.Names.{SharedSeen, IsNew}
use Rattle.shared_flow.specs.Blocks.{TookAllFirst}
use Rattle.shared_rounds.specs.Entering.{IsLeftBy}
use Rattle.shared_rounds.specs.Reach.{Rounds, rounds_in}
use Rattle.shared_flow.specs.Lives.{LifeStep, LivesOn, Life, IsSubscriptionOf, ReceivesPreludeCacheThenLater, received_in}
use Rattle.shared_flow.specs.Queue.{progress_of, ComesTo, EachInItsOwnOrder}
use Rattle.shared_flow.specs.Parties.{Subscribed}
use Rattle.shared_rounds.specs.Rounds.{Does}

-- Where a list of rounds left this of a new flow: it is that flow; the emissions that it accepted are those of the list, accepted by
-- the order in which they came; and each emitter's are accepted in its own order.
pub record IsOneFlow (made : SharedSeen) (log : Rounds) (now : SharedSeen) : Type 0 where
  pub same_flow : now.name ≡ made.name
  pub accepted_in_turn : ComesTo log (progress_of now.sequencer)
  pub each_in_its_own_order : EachInItsOwnOrder log (progress_of now.sequencer)

abbrev pub OneFlowLaw : Type 0
OneFlowLaw = (made now : SharedSeen) (log : Rounds) → IsLeftBy made log now → IsOneFlow made log now

module _ {S : Type 0} (value : S → SharedSeen) where
  -- There is one list of rounds. Each owner's rounds are its part of it, in that owner's order, and so are those of each owner that it
  -- took in; the list begins with what each owner has seen;
  -- and the flow, under the lock or with an owner that has taken it, is what exactly that list left of a new one.
  pub record HasOneList (items : List S) (views : List (Log S Round)) : Type 0 where
    pub log : Rounds
    pub parts : (pass : ℕ) (v : Log S Round) → get_elem? views pass ≡ some v → v ≢ spent → v.own ≡ own_of pass log
    pub parts_taken : (pass : ℕ) (v : Log S Round) → get_elem? views pass ≡ some v → Parts log v.taken
    pub seen_by : (pass : ℕ) (v : Log S Round) → get_elem? views pass ≡ some v → IsPrefix (rounds_in value v.seen) log
    pub under : (now : S) → items ≡ now ∷ [] → (made : SharedSeen) × IsLeftBy made log (value now)
    pub taken : (pass : ℕ) (v : Log S Round) (now : S) → get_elem? views pass ≡ some v → v.held ≡ Some now → (made : SharedSeen) × IsLeftBy made log (value now)

  -- One history of rounds left what lies under the lock, and each owner's rounds are its part of it. The rule of the lock keeps that
  -- of what lies in its place (`EachLockLaw`).
  abbrev pub IsRuled : List S → List (Log S Round) → Type 0
  IsRuled = OneHistory (λ (s : S). IsNew (value s)) (λ (s : S) (r : Round) (t : S). Does (value s) r (value t))

-- the rule that each step of each owner of a flow's lock keeps, of the lock's word and its place
abbrev pub IsLocked : State (Option (Box SharedSeen)) (Log (Box SharedSeen) Round) → Type 0
IsLocked = OneLock (λ (s : Box SharedSeen). IsNew s.value) (λ (s : Box SharedSeen) (r : Round) (t : Box SharedSeen). Does s.value r t.value)

-- by that rule one history left what lies in the place, and so there is one list of the flow's rounds
abbrev pub EachLockLaw : Type 0
EachLockLaw = (table : State (Option (Box SharedSeen)) (Log (Box SharedSeen) Round)) → IsLocked table
    → (items : List (Box SharedSeen)) × Lies table.words table.homes items × IsRuled (λ s. s.value) items table.views × HasOneList (λ s. s.value) items table.views

-- where one history is kept, there is one list of a flow's rounds between any two of its calls
abbrev pub OneListLaw : Type 0
OneListLaw = (items : List (Box SharedSeen)) (views : List (Log (Box SharedSeen) Round))
    → IsRuled (λ s. s.value) items views → HasOneList (λ s. s.value) items views

-- the reader, as if it had seen all that the flow has accepted
abbrev pub knowing : SharedSeen → ReaderSeen → ReaderSeen
knowing now r = record r { seen = seen now.sequencer }

-- What a subscription received, then what is left of its prelude and what is pending for it, is its prelude, the replay cache at its start
-- and the emissions that were accepted later in the one list of rounds, in order and once, less just those that its policy dropped.
abbrev pub EachSubscriptionLaw : {T : Type 0} → (ℕ → T) → Type 0
EachSubscriptionLaw {T} read_as = (made now : SharedSeen) (log : Rounds) (life : Life T) → IsSubscriptionOf made log now life
    → IsOneFlow made log now × ReceivesPreludeCacheThenLater read_as life (knowing now life.reader)

-- what a subscription takes at once it takes by so many turns
abbrev pub TakingAllIsTakingEach : {T : Type 0} → (ℕ → T) → Type 0
TakingAllIsTakingEach {T} read_as = (s t : Subscribed T) (room : ℕ) (taken : Taken ℕ) (values : List T) → TookAllFirst read_as s room taken values t
    → (life_steps : List (LifeStep T)) × LivesOn s.rest s.reader life_steps t.rest t.reader × (received_in read_as life_steps ≡ values)
