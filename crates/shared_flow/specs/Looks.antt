-- What a subscription was admitted by, and what its looks at the lane came to.
use Rattle.std.specs.Prelude.{◌≡◌, ◌⊎◌, ◌≤◌, ◌++◌, ℕ, false, length, replicate, Some, Ok}
use Rattle.shared_lane.specs.declared.reader.Met.{Met}
use Rattle.shared_lane.specs.declared.reader.Taken.{Taken}
use Rattle.shared_lane.specs.declared.reader.Taken.TheVariants.{Value, Nothing, Overtaken}
use Rattle.shared_lane.specs.Views.{ReaderSeen}
use Rattle.shared_lane.specs.Readers.{at}
use Rattle.shared_lane.specs.Sequencers.{next}
use Rattle.shared_rounds.specs.declared.round.Round.TheVariants as round
use Rattle.shared_rounds.specs.Meeting.{Looked}
use Rattle.shared_rounds.specs.Names.{FoundDown, FoundUp}
use Rattle.shared_flow.specs.Parties.{Subscribed, taking_of}
use Rattle.shared_rounds.specs.Reach.{Party}
use Rattle.shared_rounds.specs.Entering.{Made}
use Rattle.shared_rounds.specs.Rounds.{HasClosed, HasFreed, WasAdmitted}

-- The reader was admitted by a round of this party, which answered with this number: by what that round found, which the list of rounds
-- before it had left, and what it left of that.
pub record WasAdmittedBy (number : ℕ) (r : ReaderSeen) (p q : Party) : Type 0 where
  pub made : Made (round.Subscribe (Ok number)) p q
  pub flow_is : p.flow ≡ Some made.found.name
  pub admitted : WasAdmitted made.found r made.left

-- The reader was closed by a round of this party: sequencer and reader compared what they know before that, and counted this, and after
-- it what waits was accepted.
pub record WasEnded (number : ℕ) (r : ReaderSeen) (met : Met) (p q : Party) : Type 0 where
  pub made : Made (round.Cancel number) p q
  pub flow_is : p.flow ≡ Some made.found.name
  pub closed : HasClosed made.found r met made.left

-- the reader as it was closed, as the comparison had left it
abbrev pub closed_reader : {number : ℕ} {r : ReaderSeen} {met : Met} {p : Party} {q : Party} → WasEnded number r met p q → ReaderSeen
closed_reader ended = ended.closed.5.1

-- the subscription as its round closed it
abbrev pub IsEndOf : {T : Type 0} → Subscribed T → Met → Subscribed T → Type 0
IsEndOf s met last = (ended : WasEnded s.number s.reader met s.party last.party) × (last ≡ record s { party = last.party; reader = closed_reader ended })

-- a party took in a subscription that was cancelled, for good
abbrev pub EndedInto : {T : Type 0} → Subscribed T → Met → Party → Party → Type 0
EndedInto s met p q = (left : Party) × WasEnded s.number s.reader met s.party left × (q ≡ taking_of left p)

-- A receipt was made within a round of this party: what waits was accepted before it, and once more after it.
pub record WasMadeWithin (number : ℕ) (p q : Party) : Type 0 where
  pub made : Made (round.Next number) p q
  pub freed : HasFreed made.found made.left

-- the reader took the next value, which is read from its word
abbrev pub Gave : {T : Type 0} → (ℕ → T) → ReaderSeen → T → ReaderSeen → Type 0
Gave read_as r v t = (w : ℕ) × (v ≡ read_as w) × Looked r (Value w) t

-- what an attempt to take the next value did
abbrev pub Took : {T : Type 0} → (ℕ → T) → ReaderSeen → Taken T → ReaderSeen → Type 0
Took read_as r (Value v) t = Gave read_as r v t
Took read_as r Nothing t = Looked r Nothing t
Took read_as r Overtaken t = Looked r Overtaken t

-- the reader took nothing: its position is the tail that it loaded, or it was moved
abbrev pub Missed : ReaderSeen → ReaderSeen → Type 0
Missed r t = Looked r Nothing t ⊎ Looked r Overtaken t

-- a poll gave a value, by its first look or by its second
abbrev pub GaveIn : {T : Type 0} → (ℕ → T) → ReaderSeen → T → ReaderSeen → Type 0
GaveIn read_as r v t = Gave read_as r v t ⊎ ((m : ReaderSeen) × Missed r m × Gave read_as m v t)

-- a poll looked twice, and took nothing
abbrev pub MissedTwice : ReaderSeen → ReaderSeen → Type 0
MissedTwice r t = (m : ReaderSeen) × Missed r m × Missed m t

-- A look under the lock took nothing: all that its round left accepted lies before the reader's position; or the reader was moved just then.
pub record MissedUnder (number : ℕ) (r t : ReaderSeen) (p q : Party) : Type 0 where
  pub made : Made (round.Pending number) p q
  pub missed : (Looked r Nothing t × (next made.left.sequencer ≤ at t)) ⊎ Looked r Overtaken t

-- a poll's first look took nothing, and then one under the lock
abbrev pub MissedBoth : {T : Type 0} → Subscribed T → Subscribed T → Type 0
MissedBoth s t = (m : ReaderSeen) × Missed s.reader m × MissedUnder s.number m t.reader s.party t.party

-- by looks, one after another, the reader took nothing
pub data MissedOn : ReaderSeen → ReaderSeen → Type 0 where
  not_once : (r : ReaderSeen) → MissedOn r r
  once_more : (r m t : ReaderSeen) → MissedOn r m → Missed m t → MissedOn r t

-- so it did by one look at least
abbrev pub MissedSome : ReaderSeen → ReaderSeen → Type 0
MissedSome r t = (m : ReaderSeen) × MissedOn r m × Missed m t

-- the reader took the next value, after looks that took nothing
abbrev pub Waited : {T : Type 0} → (ℕ → T) → ReaderSeen → T → ReaderSeen → Type 0
Waited read_as r v t = (m : ReaderSeen) × MissedOn r m × Gave read_as m v t

-- A receipt took no lock: no emission may wait, or one more look found the flag down, made as the reader stood past what it had received.
abbrev pub Skips : {T : Type 0} → Subscribed T → Subscribed T → Type 0
Skips s t = (t.party ≡ s.party) × FoundDown s.party.flow (at t.reader) (length s.party.rounds) s.looks t.looks

-- A receipt accepted what waits, by a round that came after it: one more look found the flag up, made as the reader stood past what it had
-- received, when its party had not made that round yet.
abbrev pub Helped : {T : Type 0} → Subscribed T → Subscribed T → Type 0
Helped s t = Made (round.Next s.number) s.party t.party × FoundUp (at t.reader) (length s.party.rounds) s.looks t.looks

-- a receipt without the lock accepted what waits, by a round, or no emission could wait for it
abbrev pub MadeRoom : {T : Type 0} → Subscribed T → Subscribed T → Type 0
MadeRoom s t = Skips s t ⊎ Helped s t

-- so did one of a poll; or a look without the lock had found nothing, and the receipt was made within a round, after no look at the flag
abbrev pub MadeRoomIn : {T : Type 0} → Subscribed T → Subscribed T → Type 0
MadeRoomIn s t = MadeRoom s t
    ⊎ ((m : ReaderSeen) × (w : ℕ) × Missed s.reader m × Looked m (Value w) t.reader × WasMadeWithin s.number s.party t.party × (t.looks ≡ s.looks))

-- the party's rounds grew by those of calls that receive, of the subscription with this number
pub data OnlyNext (number : ℕ) : Party → Party → Type 0 where
  by_none : (p : Party) → OnlyNext number p p
  by_one : (p q r : Party) → OnlyNext number p q → Made (round.Next number) q r → OnlyNext number p r
  by_pending : (p q r : Party) → OnlyNext number p q → Made (round.Pending number) q r → OnlyNext number p r

-- nothing but what its reader has looked at may have changed
abbrev pub OnlyLooked : {T : Type 0} → Subscribed T → Subscribed T → Type 0
OnlyLooked s t = t ≡ record s { reader = t.reader }

-- the reader took nothing, and may have lost values
abbrev pub TookNone : ReaderSeen → ReaderSeen → Type 0
TookNone r t = (t.start ≡ r.start) × ((k : ℕ) × (t.story ≡ r.story ++ replicate k false))

-- The last receipt of a call accepted what waits, by a round, or no emission could wait for it. Before it came rounds of the same call, and after
-- it looks that took nothing.
pub record HasMadeRoom {T : Type 0} (s t : Subscribed T) : Type 0 where
  pub before : Subscribed T
  pub after : Subscribed T
  pub same : before.number ≡ s.number
  pub rounds : OnlyNext s.number s.party before.party
  pub made_room : MadeRoomIn before after
  pub then : OnlyLooked after t
  pub took_none : TookNone after.reader t.reader
