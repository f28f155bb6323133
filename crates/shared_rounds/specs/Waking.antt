-- Whom a round puts to sleep, and whom it wakes. Who leaves a table is woken: a waker that is let go wakes its task, and no owner of the
-- lock keeps one beyond its call.
use Rattle.std.specs.Prelude.{⊤, ◌≡◌, ◌≢◌, ◌⊎◌, ℕ, ◌<◌, ◌≤◌, Option, Some, None, [], false}
use Rattle.flow_terms.specs.declared.answers.Emit.TheVariants as emit
use Rattle.shared_lane.specs.Views.{SequencerSeen}
use Rattle.shared_lane.specs.Sequencers.{IsSameSequencer, OnlyLoaded, next}
use Rattle.slab.specs.Slab.{get}
use Rattle.shared_lane.specs.Ordering.{IsOut}
use Rattle.shared_lane.specs.Polls.{IsOutFor, IsFinishedBelow, stands_below}
use Rattle.shared_rounds.specs.declared.round.Round.{Round}
use Rattle.shared_rounds.specs.declared.round.Round.TheVariants as round
use Rattle.shared_rounds.specs.declared.wait_list.Sleeper.{Sleeper}
use Rattle.shared_rounds.specs.Names.{FlowName, SharedSeen}
use Rattle.shared_rounds.specs.Sleeping.{NobodySleeps, OnlyThese, Parks}

-- nobody fell asleep, and nobody was woken
abbrev pub SleepOn : SharedSeen → SharedSeen → Type 0
SleepOn s t = (t.subscriptions ≡ s.subscriptions) × (t.emissions ≡ s.emissions)

-- Who sleeps as a call has its answer: the task of a poll that found no value may have fallen asleep under its subscription's number, that of
-- a poll which waits under its ticket.
abbrev pub FallsAsleep : SharedSeen → Round → SharedSeen → Type 0
FallsAsleep s (round.Pending number) t = Parks number s.subscriptions t.subscriptions × (t.emissions ≡ s.emissions)
FallsAsleep s (round.Poll ticket emit.Waiting) t = (t.subscriptions ≡ s.subscriptions) × Parks ticket.0 s.emissions t.emissions
FallsAsleep s _ t = SleepOn s t

-- the subscription that a round ends
abbrev pub ended_by : Round → Option ℕ
ended_by (round.Cancel number) = Some number
ended_by _ = None

-- Where something was accepted since the number `before` was the next one, no subscription sleeps on; else all do but one that was ended.
pub record WakesSubscriptions (before : ℕ) (ended : Option ℕ) (s t : SharedSeen) : Type 0 where
  pub accepted : before < next t.sequencer → NobodySleeps t.subscriptions
  pub none_accepted : next t.sequencer ≤ before → OnlyThese (λ number. ended ≢ Some number) s.subscriptions t.subscriptions

-- an emission has to wait: its ticket is out, and it doesn't stand below this number
abbrev pub HasToWait : SequencerSeen → ℕ → ℕ → Type 0
HasToWait q below ticket = (stands_below q.standing ticket below ≡ false) × ((emitter : ℕ) × IsOutFor q ticket emitter)

-- the tickets of the emissions that sleep are out, but for one
abbrev pub AreOutBut : Option ℕ → SharedSeen → Type 0
AreOutBut taken s = (key : ℕ) (sleeper : Sleeper) → get s.emissions key ≡ Some sleeper → taken ≢ Some sleeper.number → IsOut s.sequencer sleeper.number

-- the tickets of all are, where an owner has the lock
abbrev pub AreOutWhereHeld : Option SharedSeen → Type 0
AreOutWhereHeld None = ⊤
AreOutWhereHeld (Some s) = AreOutBut None s

-- what an owner holds is its flow
abbrev pub HoldsItsFlow : Option FlowName → Option SharedSeen → Type 0
HoldsItsFlow known None = ⊤
HoldsItsFlow known (Some s) = known ≡ Some s.name

-- the ticket that a round takes back: that of an emission which is finished, or is given up
abbrev pub taken_by : Round → Option ℕ
taken_by (round.Poll ticket (emit.Done n)) = Some ticket.0
taken_by (round.StrayPoll ticket emitter last n) = Some ticket.0
taken_by (round.Withdraw ticket answer) = Some ticket.0
taken_by (round.StrayWithdraw ticket emitter last n) = Some ticket.0
taken_by _ = None

-- Those emissions sleep on that have to wait, as the cursors were found then: one that is finished, was taken or was withdrawn doesn't.
abbrev pub WakesEmissions : SharedSeen → SharedSeen → Type 0
WakesEmissions s t = (NobodySleeps s.emissions × (t.emissions ≡ s.emissions))
    ⊎ ((below : ℕ) × IsFinishedBelow s.sequencer below t.sequencer × OnlyThese (HasToWait t.sequencer below) s.emissions t.emissions)

-- an emission may have to wait for a receipt: one that has no room, or, where there are no places, one that was accepted
abbrev pub IsUnfinished : SequencerSeen → Type 0
IsUnfinished q = (q.waiting ≢ []) ⊎ ((q.capacity ≡ 0) × (q.standing ≢ []))

-- the flag is up where one may have to
abbrev pub IsTied : SharedSeen → Type 0
IsTied s = IsUnfinished s.sequencer → s.flag ≡ 1

-- What helps those whom a round has helped, after the call, and ties the flag: nothing but that, and looks at the cursors.
pub record Helps (before : ℕ) (ended : Option ℕ) (s t : SharedSeen) : Type 0 where
  pub named : t.name ≡ s.name
  pub same : IsSameSequencer s.sequencer t.sequencer
  pub only : OnlyLoaded s.sequencer t.sequencer
  pub subscriptions : WakesSubscriptions before ended s t
  pub emissions : WakesEmissions s t
  pub tied : IsTied t
  pub raised : t.raised ≡ s.raised

-- a round: its call may have put a task to sleep, and then those were woken whom it has helped
pub record WakesWhomItHelps (s : SharedSeen) (r : Round) (t : SharedSeen) : Type 0 where
  pub called : SharedSeen
  pub asleep : FallsAsleep s r called
  pub helps : Helps (next s.sequencer) (ended_by r) called t
