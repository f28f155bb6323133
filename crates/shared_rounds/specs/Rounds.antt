-- The rounds of a shared flow: what each call, with its answer, does to what lies under the lock.
use Rattle.std.specs.Prelude.{◌≡◌, ◌≢◌, ◌⊎◌, ℕ, ◌+◌, ◌-◌, List, [], ◌∷◌, ◌++◌, ◌≤◌, ◌<◌, length, take, ⊤, Option, Some, None, Result, Ok, Err}
use Rattle.flow_terms.specs.declared.refusal.Refusal.{Refusal}
use Rattle.flow_terms.specs.declared.refusal.Refusal.TheVariants.{NoMemory, Spent, SubscribersFull}
use Rattle.flow_terms.specs.declared.answers.Tried.{Tried}
use Rattle.flow_terms.specs.declared.answers.Tried.TheVariants as tried
use Rattle.flow_terms.specs.declared.answers.Begun.{Begun}
use Rattle.flow_terms.specs.declared.answers.Begun.TheVariants as begun
use Rattle.flow_terms.specs.declared.answers.Emit.{Emit}
use Rattle.flow_terms.specs.declared.answers.Emit.TheVariants as emit
use Rattle.flow_terms.specs.declared.answers.Withdrawn.{Withdrawn}
use Rattle.flow_terms.specs.declared.answers.Withdrawn.TheVariants as withdrawn
use Rattle.flow_terms.specs.declared.ids.Ticket.{Ticket}
use Rattle.shared_lane.specs.Law.{Entry}
use Rattle.shared_lane.specs.declared.reader.Met.{Met}
use Rattle.shared_lane.specs.declared.reader.Taken.{Taken}
use Rattle.shared_lane.specs.declared.reader.Taken.TheVariants.{Value, Nothing, Overtaken}
use Rattle.shared_lane.specs.Views.{LaneSeen, ReaderSeen, ReceiptSeen, SequencerSeen}
use Rattle.shared_lane.specs.Sequencers.{IsSameSequencer, OnlyLoaded, AfterScan, TriedOn, RefusedTry, BegunOn, RefusedStart, seen}
use Rattle.shared_lane.specs.Blocks.{TriedAllOn}
use Rattle.shared_lane.specs.Polls.{PolledOn, WithdrawnFrom, IsOutFor, IsNotOut}
use Rattle.shared_lane.specs.Places.{Admitted, NotAdmitted, Counted, IsOfSubscription, told_of_end}
use Rattle.shared_lane.specs.Readers.{IsReaderOf}
use Rattle.shared_rounds.specs.declared.round.Emission.{Emission}
use Rattle.shared_rounds.specs.declared.round.Round.{Round}
use Rattle.shared_rounds.specs.declared.round.Round.TheVariants as round
use Rattle.shared_rounds.specs.Meeting.{HasMet}
use Rattle.shared_rounds.specs.Names.{SharedSeen}
use Rattle.shared_rounds.specs.Tries.{IfBegun, without_ticket}
use Rattle.shared_rounds.specs.Waking.{WakesWhomItHelps}

-- an emission, as the lane keeps it
abbrev pub entry : Emission → Entry
entry e = (e.emitter, e.word)

-- the number is above the last one that an emitter was answered
abbrev pub IsAfter : Option ℕ → ℕ → Type 0
IsAfter None n = ⊤
IsAfter (Some last) n = last < n

-- the ticket is out for another's emission or for none, or the number isn't above the emitter's last
abbrev pub IsStray : SequencerSeen → ℕ → ℕ → Option ℕ → ℕ → Type 0
IsStray q ticket emitter last n = IsNotOut q ticket ⊎ (((x : ℕ) × (x ≢ emitter) × IsOutFor q ticket x) ⊎ ((l : ℕ) × (last ≡ Some l) × (n ≤ l)))

-- the round of a poll, and of a withdrawal, by whether it has a receipt for its answer
abbrev pub poll_round : Ticket → ℕ → Option ℕ → Emit → Option ReceiptSeen → Round
poll_round ticket emitter last (emit.Done n) (Some r) = round.Poll ticket (emit.Done n)
poll_round ticket emitter last (emit.Done n) None = round.StrayPoll ticket emitter last n
poll_round ticket emitter last emit.Waiting r = round.Poll ticket emit.Waiting
poll_round ticket emitter last emit.Gone r = round.Poll ticket emit.Gone

abbrev pub withdraw_round : Ticket → ℕ → Option ℕ → Withdrawn ℕ → Option ReceiptSeen → Round
withdraw_round ticket emitter last (withdrawn.Left n) (Some r) = round.Withdraw ticket (withdrawn.Left n)
withdraw_round ticket emitter last (withdrawn.Left n) None = round.StrayWithdraw ticket emitter last n
withdraw_round ticket emitter last withdrawn.Removed r = round.Withdraw ticket withdrawn.Removed
withdraw_round ticket emitter last withdrawn.Gone r = round.Withdraw ticket withdrawn.Gone

-- what a call does, which has accepted what waited
abbrev pub Makes : LaneSeen → SequencerSeen → Round → SequencerSeen → Type 0
Makes lane q (round.Try e (Ok answer)) t = TriedOn q (entry e) answer t
Makes lane q (round.Try e (Err refusal)) t = RefusedTry q refusal t
Makes lane q (round.TryAll emitter words (Ok n)) t = TriedAllOn q emitter words n t
Makes lane q (round.TryAll emitter words (Err refusal)) t = (words ≢ []) × RefusedTry q refusal t
Makes lane q (round.Start e (Ok answer)) t = BegunOn q (entry e) answer t
Makes lane q (round.Start e (Err refusal)) t = RefusedStart q refusal t
Makes lane q (round.Poll ticket answer) t = PolledOn q ticket.0 answer t
Makes lane q (round.StrayPoll ticket emitter last n) t = PolledOn q ticket.0 (emit.Done n) t × IsStray q ticket.0 emitter last n
Makes lane q (round.Withdraw ticket answer) t = WithdrawnFrom q ticket.0 answer t
Makes lane q (round.StrayWithdraw ticket emitter last n) t = WithdrawnFrom q ticket.0 (withdrawn.Left n) t × IsStray q ticket.0 emitter last n
Makes lane q (round.Subscribe (Ok number)) t = (number ≡ q.subscription) × ((r : ReaderSeen) × Admitted lane q r t)
Makes lane q (round.Subscribe (Err refusal)) t = NotAdmitted q refusal t
Makes lane q (round.Next number) t = t ≡ q
Makes lane q (round.Pending number) t = t ≡ q
-- the sequencer has loaded the cursor of this subscription's reader, and then knows that it was closed
Makes lane q (round.Cancel number) t = (m : SequencerSeen) × (r : ReaderSeen) × OnlyLoaded q m × IsReaderOf lane r × (t ≡ told_of_end r m) × IsOfSubscription number r
Makes lane q round.Reset t = t ≡ record q { cache = [] }
Makes lane q (round.Cache (Ok words)) t = (t ≡ q) × (words ≡ q.cache)
Makes lane q (round.Cache (Err refusal)) t = (t ≡ q) × (refusal ≡ NoMemory)
Makes lane q (round.Count count) t = OnlyLoaded q t × Counted q count t
Makes lane q (round.Hold count) t = OnlyLoaded q t × Counted q count t

-- the round of a look under the lock, by what it found
abbrev pub look_round : ℕ → Taken ℕ → Round
look_round number (Value word) = round.Next number
look_round number Nothing = round.Pending number
look_round number Overtaken = round.Pending number

-- what waited was accepted, as far as there was room
abbrev pub Scanned : SequencerSeen → SequencerSeen → Type 0
Scanned q t = AfterScan q (λ m. t ≡ m)

-- at its end a call may accept once more what waits, and it may look at the cursors, to see who is to be woken
abbrev pub Finishes : SequencerSeen → SequencerSeen → Type 0
Finishes q t = (m : SequencerSeen) × ((m ≡ q) ⊎ Scanned q m) × OnlyLoaded m t

-- What waits is accept once more at the end of a subscription, as far as that has made room; and where an emission begins to wait, which a
-- receipt before that may have made room for. The flag was raised for it before the first load of that.
abbrev pub Frees : Round → SequencerSeen → SharedSeen → Type 0
Frees (round.Cancel number) q t = (m : SequencerSeen) × Scanned q m × OnlyLoaded m t.sequencer
Frees (round.Start e (Ok (begun.Waiting ticket))) q t = (m : SequencerSeen) × Scanned q m × OnlyLoaded m t.sequencer × (t.raised ≡ length q.view.loads)
Frees _ q t = ⊤

-- What a call comes to, before it helps others: it accepts what waits, is made, and rests. The flow stays the same one.
abbrev pub Comes : SharedSeen → Round → SharedSeen → Type 0
Comes s r t = (t.name ≡ s.name) × IsSameSequencer s.sequencer t.sequencer
    × AfterScan s.sequencer (λ m. (n : SequencerSeen) × Makes s.name.lane m r n × Finishes n t.sequencer × Frees r n t)

-- A round: the call, and those were woken whom it has helped.
abbrev pub Does : SharedSeen → Round → SharedSeen → Type 0
Does s r t = (t.name ≡ s.name) × IsSameSequencer s.sequencer t.sequencer
    × AfterScan s.sequencer (λ m. (n : SequencerSeen) × Makes s.name.lane m r n × Finishes n t.sequencer × Frees r n t) × WakesWhomItHelps s r t

-- what waited was accepted, and the call was made
abbrev pub MakesAfterScan : SharedSeen → Round → SharedSeen → Type 0
MakesAfterScan s r t = AfterScan s.sequencer (λ m. Makes s.name.lane m r t.sequencer)

-- the answers of a try, and of a start, with the numbers of their receipts
abbrev pub numbers_tried : Result (Tried ReceiptSeen) Refusal → Result (Tried ℕ) Refusal
numbers_tried (Ok (tried.Accepted receipt)) = Ok (tried.Accepted receipt.number)
numbers_tried (Ok tried.Dropped) = Ok tried.Dropped
numbers_tried (Ok tried.Full) = Ok tried.Full
numbers_tried (Err refusal) = Err refusal

abbrev pub numbers_begun : Result (Begun ReceiptSeen Ticket) Refusal → Result (Begun ℕ Ticket) Refusal
numbers_begun (Ok (begun.Accepted receipt)) = Ok (begun.Accepted receipt.number)
numbers_begun (Ok begun.Dropped) = Ok begun.Dropped
numbers_begun (Ok (begun.Waiting ticket)) = Ok (begun.Waiting ticket)
numbers_begun (Err refusal) = Err refusal

-- the receipt is of this lane and for this emission: what it has seen ends in it
abbrev pub IsReceiptFor : LaneSeen → Emission → ReceiptSeen → Type 0
IsReceiptFor lane e r = (r.table ≡ lane.table) × (r.emitter ≡ e.emitter)
    × ((before : List Entry) × (r.seen ≡ before ++ entry e ∷ []) × (r.number ≡ lane.shape.first + length before))

-- the last emission that was accepted is this one, with this number
abbrev pub IsLastAccepted : SequencerSeen → Emission → ℕ → Type 0
IsLastAccepted q e n = (before : List Entry) × (seen q ≡ before ++ entry e ∷ []) × (n ≡ q.view.shape.first + length before)

-- what a start answered, with a receipt for the number, as its caller sees it
abbrev pub HasReceipt : LaneSeen → Emission → Result (Begun ℕ Ticket) Refusal → Result (Begun ReceiptSeen (Unit {0})) Refusal → Type 0
HasReceipt lane e answer told = (begins : Result (Begun ReceiptSeen Ticket) Refusal) × (answer ≡ numbers_begun begins) × (told ≡ without_ticket begins)
    × IfBegun begins (IsReceiptFor lane e)

-- the receipt is of this lane, for an emission of this emitter, and what it has seen ends in that emission
abbrev pub IsReceiptOfOne : LaneSeen → ℕ → ReceiptSeen → Type 0
IsReceiptOfOne lane emitter r = (r.table ≡ lane.table) × (r.emitter ≡ emitter)
    × ((before : List Entry) × (word : ℕ) × (r.seen ≡ before ++ (emitter, word) ∷ []) × (r.number ≡ lane.shape.first + length before))

-- the receipt has seen all that was accepted up to its number
abbrev pub HasSeenUpTo : SequencerSeen → ReceiptSeen → Type 0
HasSeenUpTo q r = r.seen ≡ take (r.number + 1 - q.view.shape.first) (seen q)

-- such a receipt, with a number above the emitter's last
abbrev pub IsReceiptAfter : LaneSeen → ℕ → Option ℕ → ReceiptSeen → Type 0
IsReceiptAfter lane emitter last r = IsAfter last r.number × IsReceiptOfOne lane emitter r

-- the number isn't above the last one that an emitter was answered
abbrev pub IsNotAfter : Option ℕ → ℕ → Type 0
IsNotAfter last n = (l : ℕ) × (last ≡ Some l) × (n ≤ l)

-- the number of the emission that a poll found finished, and of the one that had been accepted when it was given up
abbrev pub number_done : Emit → Option ℕ
number_done (emit.Done n) = Some n
number_done emit.Waiting = None
number_done emit.Gone = None

abbrev pub number_left : Withdrawn ℕ → Option ℕ
number_left (withdrawn.Left n) = Some n
number_left withdrawn.Removed = None
number_left withdrawn.Gone = None

-- where an emission has a ticket, which has to wait, what waits was accepted once more; else nothing was done
abbrev pub AcceptsFor : Option Ticket → SequencerSeen → SequencerSeen → Type 0
AcceptsFor (Some ticket) q t = Scanned q t
AcceptsFor None q t = t ≡ q

-- where it has one, the flag was raised before that: the sequencer had loaded so many words then, and no more
abbrev pub RaisedFor : Option Ticket → SequencerSeen → ℕ → Type 0
RaisedFor (Some ticket) q loads = loads ≡ length q.view.loads
RaisedFor None q loads = ⊤

-- why nobody can be admitted: the numbers are used up, or the places are
abbrev pub IsAtLimit : Refusal → Type 0
IsAtLimit refusal = (refusal ≡ Spent) ⊎ (refusal ≡ SubscribersFull)

-- what waited was accepted, and then the reader, with this number
abbrev pub IsAdmitted : SharedSeen → ℕ → ReaderSeen → SharedSeen → Type 0
IsAdmitted s number r t = AfterScan s.sequencer (λ m. (number ≡ m.subscription) × Admitted s.name.lane m r t.sequencer)

-- the reader was admitted to this flow, by what the sequencer knew when what waited had been accepted
abbrev pub WasAdmitted : SharedSeen → ReaderSeen → SharedSeen → Type 0
WasAdmitted s r t = AfterScan s.sequencer (λ m. (n : SequencerSeen) × Admitted s.name.lane m r n × OnlyLoaded n t.sequencer)

-- Sequencer and reader compared what they know, and counted; then the sequencer heard that the reader has closed its cursor, and accepted
-- what waits
abbrev pub HasClosedAt : ReaderSeen → Met → SequencerSeen → SequencerSeen → Type 0
HasClosedAt r met q t = (k : SequencerSeen) × (last : ReaderSeen) × (n : SequencerSeen)
    × OnlyLoaded q k × HasMet k r last met × Scanned (told_of_end last k) n × OnlyLoaded n t

-- so it did after what waits was accepted
abbrev pub HasClosed : SharedSeen → ReaderSeen → Met → SharedSeen → Type 0
HasClosed s r met t = AfterScan s.sequencer (λ m. HasClosedAt r met m t.sequencer)

-- what waits was accepted before a look, and once more after it
abbrev pub HasFreed : SharedSeen → SharedSeen → Type 0
HasFreed s t = AfterScan s.sequencer (λ m. (n : SequencerSeen) × Scanned m n × OnlyLoaded n t.sequencer)

-- so it was where the look gave a value, which may have made room
abbrev pub FreesAfter : Taken ℕ → SharedSeen → SharedSeen → Type 0
FreesAfter (Value word) s t = HasFreed s t
FreesAfter Nothing s t = ⊤
FreesAfter Overtaken s t = ⊤

-- one more than the number that a round answered with, or 0
abbrev pub after_number : Round → ℕ
after_number (round.Try e (Ok (tried.Accepted n))) = n + 1
after_number (round.Start e (Ok (begun.Accepted n))) = n + 1
after_number (round.Poll ticket (emit.Done n)) = n + 1
after_number (round.Withdraw ticket (withdrawn.Left n)) = n + 1
after_number _ = 0

-- each number that these rounds answered with is below n
abbrev pub Below : ℕ → List Round → Type 0
Below n [] = ⊤
Below n (r ∷ rs) = (after_number r ≤ n) × Below n rs
