-- What a subscription received, and what its asks come to.
use Rattle.std.specs.Prelude.{◌≡◌, ◌≢◌, ℕ, ◌+◌, ◌-◌, ◌<◌, ◌≤◌, Some, None, List, [], ◌∷◌, ◌++◌, length, slice_get}
use Rattle.std.specs.List.{range_with_len}
use Rattle.round_lock.specs.Locking.{Locking}
use Rattle.flow_terms.specs.declared.policy.Policy.TheVariants as policy
use Rattle.value_flows.specs.declared.round.Round.{Round}
use Rattle.value_flows.specs.declared.round.Round.TheVariants as round
use Rattle.value_flows.specs.declared.ring.Ring.{Ring}
use Rattle.value_flows.specs.declared.received.Looked.{Looked}
use Rattle.value_flows.specs.declared.received.Looked.TheVariants as looked
use Rattle.value_flows.specs.declared.received.Awaited.{Awaited}
use Rattle.value_flows.specs.declared.received.Awaited.TheVariants as awaited
use Rattle.value_flows.specs.declared.received.Attempt.{Attempt}
use Rattle.value_flows.specs.declared.received.Attempt.TheVariants as attempt
use Rattle.value_flows.specs.Accepted.{accepted_in}
use Rattle.value_flows.specs.Keeping.{KeepsTo, stands}
use Rattle.value_flows.specs.Does.{IsKept, moved, oldest_of}
use Rattle.value_flows.specs.Calls.{accepted, Finds, Holds, after_call}

-- where a call began a subscription
abbrev pub begun_by : Round → List ℕ
begun_by round.Look = []
begun_by round.Emit = []
begun_by (round.Begin place start) = start ∷ []
begun_by (round.Give place number) = []
begun_by (round.Miss place from count) = []
begun_by (round.End place) = []
begun_by round.Forget = []

-- the numbers that a call passed: the one of the value that it gave, or all that it told as missed
abbrev pub passed_by : Round → List ℕ
passed_by round.Look = []
passed_by round.Emit = []
passed_by (round.Begin place start) = []
passed_by (round.Give place number) = number ∷ []
passed_by (round.Miss place from count) = range_with_len from count
passed_by (round.End place) = []
passed_by round.Forget = []

-- what these calls did of that, in order
abbrev pub all_by : (Round → List ℕ) → List Round → List ℕ
all_by did [] = []
all_by did (r ∷ calls) = did r ++ all_by did calls

-- A subscription began once, and passed each number from there up to this one, in order and once: its value was given, or it was told
-- as missed. Of all places it moved its own alone
pub record HasPassed (own : List Round) (place next : ℕ) : Type 0 where
  pub start : ℕ
  pub begun : all_by begun_by own ≡ start ∷ []
  pub reached : start ≤ next
  pub passed : all_by passed_by own ≡ range_with_len start (next - start)
  pub keeps_to : KeepsTo None own
  pub at : stands None own ≡ Some (place, next)

module _ {T : Type 0} where
  -- one call that gave the value of the next number, the one that the flow accepted under it
  pub record Gives (before : Locking (Ring T) Round) (value : T) (after : Locking (Ring T) Round) : Type 0 where
    pub calls : List (ℕ × Round × Ring T)
    pub ring : Ring T
    pub place : ℕ
    pub number : ℕ
    pub finds : Finds before calls ring
    pub next : HasPassed before.log.own place number
    pub value_is : slice_get (accepted_in calls) number ≡ Some value
    pub only : after ≡ after_call calls (round.Give place number) (moved place (Some (number + 1)) ring) before
    pub same : accepted after ≡ accepted_in calls
    pub passed : HasPassed after.log.own place (number + 1)

  -- one call that told of so many missed values: from the next number on, those that were let go, and no more. As many are kept as
  -- there are places. Under another policy than `DropOldest` none is missed of a place that is as its subscription left it
  pub record Tells (before : Locking (Ring T) Round) (count : ℕ) (after : Locking (Ring T) Round) : Type 0 where
    pub calls : List (ℕ × Round × Ring T)
    pub ring : Ring T
    pub place : ℕ
    pub from : ℕ
    pub finds : Finds before calls ring
    pub next : HasPassed before.log.own place from
    pub some : 0 < count
    pub let_go : from + count + ring.values.capacity ≡ length (accepted_in calls)
    pub drops : ring.policy ≢ policy.DropOldest → slice_get ring.cursors place ≢ Some (Some from)
    pub only : after ≡ after_call calls (round.Miss place from count) (moved place (Some (from + count)) ring) before
    pub same : accepted after ≡ accepted_in calls
    pub passed : HasPassed after.log.own place (from + count)

  -- one call that gave nothing, since each accepted value was passed
  pub record FindsNone (before after : Locking (Ring T) Round) : Type 0 where
    pub calls : List (ℕ × Round × Ring T)
    pub ring : Ring T
    pub finds : Finds before calls ring
    pub place : ℕ
    pub passed_all : HasPassed before.log.own place (length (accepted_in calls))
    pub only : after ≡ after_call calls round.Look ring before
    pub same : accepted after ≡ accepted_in calls

  -- one call that gave nothing, as no clone of the value could be had: the next ask finds it again
  pub record LeavesIt (before : Locking (Ring T) Round) (value : T) (after : Locking (Ring T) Round) : Type 0 where
    pub calls : List (ℕ × Round × Ring T)
    pub ring : Ring T
    pub place : ℕ
    pub number : ℕ
    pub finds : Finds before calls ring
    pub next : HasPassed before.log.own place number
    pub value_is : slice_get (accepted_in calls) number ≡ Some value
    pub only : after ≡ after_call calls round.Look ring before
    pub same : accepted after ≡ accepted_in calls

  -- the lock is taken for the value of the next number, which is kept
  pub record Takes (before : Locking (Ring T) Round) (ring : Ring T) (value : T) (after : Locking (Ring T) Round) : Type 0 where
    pub place : ℕ
    pub number : ℕ
    pub holds : Holds before ring after
    pub next : HasPassed before.log.own place number
    pub kept : IsKept ring number
    pub value_is : slice_get ring.values.items (number - oldest_of ring) ≡ Some value

  -- what one ask comes to
  abbrev pub Looks : Locking (Ring T) Round → Looked T → Locking (Ring T) Round → Type 0
  Looks v (looked.There guarded) w = (value : T) × Takes v guarded.state value w
  Looks v (looked.Missed count) w = Tells v count w
  Looks v looked.Nothing w = FindsNone v w

  -- by asks, one after another, the subscription found nothing
  pub data FoundNoneOn : Locking (Ring T) Round → Locking (Ring T) Round → Type 0 where
    not_once : (v : Locking (Ring T) Round) → FoundNoneOn v v
    once_more : (v m w : Locking (Ring T) Round) → FoundNoneOn v m → FindsNone m w → FoundNoneOn v w

  -- after asks that found nothing, if any, the last one came to this
  abbrev pub AfterNone : (Locking (Ring T) Round → Locking (Ring T) Round → Type 0) → Locking (Ring T) Round → Locking (Ring T) Round → Type 0
  AfterNone last v w = (m : Locking (Ring T) Round) × FoundNoneOn v m × last m w

  -- What a wait comes to: after asks that found nothing, if any, the lock is taken for the next value, or values were missed, or the
  -- last ask found nothing either
  abbrev pub ComesTo : Locking (Ring T) Round → Awaited T → Locking (Ring T) Round → Type 0
  ComesTo v (awaited.There guarded) w = (value : T) × AfterNone (λ m x. Takes m guarded.state value x) v w
  ComesTo v (awaited.Missed count) w = AfterNone (λ m x. Tells m count x) v w
  ComesTo v awaited.Stopped w = AfterNone FindsNone v w

  -- what one turn of a wait comes to: one ask
  abbrev pub Comes : Locking (Ring T) Round → Attempt T → Locking (Ring T) Round → Type 0
  Comes v (attempt.Over (awaited.There guarded)) w = (value : T) × Takes v guarded.state value w
  Comes v (attempt.Over (awaited.Missed count)) w = Tells v count w
  Comes v (attempt.Over awaited.Stopped) w = FindsNone v w
  Comes v (attempt.Asleep n) w = FindsNone v w

  -- one call by which a subscription ended: its place is free
  pub record Ends (before after : Locking (Ring T) Round) : Type 0 where
    pub calls : List (ℕ × Round × Ring T)
    pub ring : Ring T
    pub place : ℕ
    pub next : ℕ
    pub finds : Finds before calls ring
    pub passed : HasPassed before.log.own place next
    pub only : after ≡ after_call calls (round.End place) (moved place None ring) before
    pub same : accepted after ≡ accepted_in calls

  -- what a subscription keeps: its place, and the number of its next value
  pub record Keeps (owner : Locking (Ring T) Round) (place next : ℕ) : Type 0 where
    pub passed : HasPassed owner.log.own place next
    pub within : next ≤ length (accepted owner)
