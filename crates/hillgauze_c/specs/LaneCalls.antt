-- What an export on a lane does: what `shared_lane` says of its own call, told to C.
use Rattle.std.specs.Prelude.{◌≡◌, ◌⊎◌, ◌≢◌, ℕ, List, [], ◌++◌, length, drop, min, slice_get, Option, Some, Result, Ok, Err}
use Rattle.flow_terms.specs.declared.answers.Tried.{Tried}
use Rattle.flow_terms.specs.declared.answers.Begun.{Begun}
use Rattle.flow_terms.specs.declared.answers.Emit.{Emit}
use Rattle.flow_terms.specs.declared.answers.Withdrawn.{Withdrawn}
use Rattle.flow_terms.specs.declared.ids.Ticket.{Ticket}
use Rattle.flow_terms.specs.declared.refusal.Refusal.{Refusal}
use Rattle.flow_terms.specs.declared.refusal.Refusal.TheVariants.{NoMemory}
use Rattle.shared_core.specs.declared.config.Config.{Config}
use Rattle.shared_lane.specs.declared.reader.Taken.{Taken}
use Rattle.shared_lane.specs.Views.{LaneSeen, SequencerSeen, ReaderSeen}
use Rattle.shared_lane.specs.Sequencers.{IsSameSequencer, HasNumber, HasTicketNumber, TriedOn, RefusedTry, BegunOn, RefusedStart, AfterScan, IsFresh, IsSequencerOf, AcceptedWaiting, IsStuck, OnlyLoaded}
use Rattle.shared_lane.specs.Blocks.{TriedAllOn}
use Rattle.shared_lane.specs.Picks.{TookAll}
use Rattle.shared_lane.specs.Polls.{PolledOn, WithdrawnFrom}
use Rattle.shared_lane.specs.Places.{Admitted, NotAdmitted, Counted}
use Rattle.shared_lane.specs.Readers.{IsSameReader, TookNext}
use Rattle.hillgauze_c.specs.declared.object.Object.{Object}
use Rattle.hillgauze_c.specs.declared.object.Object.TheVariants.{Sequencer, Reader}
use Rattle.hillgauze_c.specs.declared.reply.Reply.{Reply}
use Rattle.hillgauze_c.specs.Replies.{refusal_reply, answered, value_reply}
use Rattle.hillgauze_c.specs.Kinds.{sequencer_of, reader_of, OnHandle}

abbrev pub OnSequencer : (SequencerSeen → Reply → SequencerSeen → Type 0) → Option Object → Reply → Option Object → Type 0
OnSequencer Call = OnHandle sequencer_of Sequencer Call

abbrev pub OnReader : (ReaderSeen → Reply → ReaderSeen → Type 0) → Option Object → Reply → Option Object → Type 0
OnReader Call = OnHandle reader_of Reader Call

-- a reader was admitted to the sequencer's lane
abbrev pub IsAdmitted : SequencerSeen → ReaderSeen → SequencerSeen → Type 0
IsAdmitted q r t = (lane : LaneSeen) × IsSequencerOf lane q × Admitted lane q r t

abbrev pub IsNotAdmitted : SequencerSeen → Refusal → SequencerSeen → Type 0
IsNotAdmitted q e t = NotAdmitted q e t ⊎ ((e ≡ NoMemory) × (t ≡ q))

-- What a try and a start answered, of a refusal or not. Of the other calls their own clause says that it is the same sequencer.
abbrev pub TriedBy : ℕ → ℕ → SequencerSeen → Result (Tried ℕ) Refusal → SequencerSeen → Type 0
TriedBy emitter word q (Ok answer) t = IsSameSequencer q t × AfterScan q (λ m. HasNumber m × TriedOn m (emitter, word) answer t)
TriedBy emitter word q (Err refusal) t = IsSameSequencer q t × AfterScan q (λ m. RefusedTry m refusal t)

abbrev pub TriedAllBy : ℕ → List ℕ → SequencerSeen → Result ℕ Refusal → SequencerSeen → Type 0
TriedAllBy emitter words q (Ok count) t = IsSameSequencer q t × AfterScan q (λ m. TriedAllOn m emitter words count t)
TriedAllBy emitter words q (Err refusal) t = IsSameSequencer q t × (words ≢ []) × AfterScan q (λ m. RefusedTry m refusal t)

abbrev pub BegunBy : ℕ → ℕ → SequencerSeen → Result (Begun ℕ Ticket) Refusal → SequencerSeen → Type 0
BegunBy emitter word q (Ok answer) t = IsSameSequencer q t × AfterScan q (λ m. HasNumber m × HasTicketNumber m × BegunOn m (emitter, word) answer t)
BegunBy emitter word q (Err refusal) t = IsSameSequencer q t × AfterScan q (λ m. RefusedStart m refusal t)

abbrev pub PolledBy : ℕ → SequencerSeen → Emit → SequencerSeen → Type 0
PolledBy ticket q answer t = IsSameSequencer q t × PolledOn q ticket answer t

abbrev pub WithdrawnBy : ℕ → SequencerSeen → Withdrawn ℕ → SequencerSeen → Type 0
WithdrawnBy ticket q answer t = WithdrawnFrom q ticket answer t

abbrev pub Scans : SequencerSeen → Reply → SequencerSeen → Type 0
Scans q reply t = (n : ℕ) × (reply ≡ answered 13 n) × IsSameSequencer q t × AcceptedWaiting n q t × (t.waiting ≢ [] → IsStuck q t)

abbrev pub CountsReaders : SequencerSeen → Reply → SequencerSeen → Type 0
CountsReaders q reply t = (n : ℕ) × (reply ≡ answered 13 n) × OnlyLoaded q t × Counted q n t

abbrev pub HasCacheLength : SequencerSeen → Reply → SequencerSeen → Type 0
HasCacheLength q reply t = (t ≡ q) × (reply ≡ answered 13 (length q.cache))

abbrev pub ReadsLaneCache : ℕ → SequencerSeen → Reply → SequencerSeen → Type 0
ReadsLaneCache index q reply t = (t ≡ q) × (reply ≡ value_reply (slice_get q.cache index))

abbrev pub ResetsLane : SequencerSeen → Reply → SequencerSeen → Type 0
ResetsLane q reply t = (reply ≡ answered 1 0) × (t ≡ record q { cache = [] })

-- a reader was admitted and stands in the handle, or the call was refused
abbrev pub Admits : Option Object → SequencerSeen → Reply → SequencerSeen → Type 0
Admits handle q reply t =
    ((r : ReaderSeen) × (reply ≡ answered 1 0) × (handle ≡ Some (Reader r)) × IsAdmitted q r t)
    ⊎ ((e : Refusal) × (reply ≡ refusal_reply e) × IsNotAdmitted q e t)

abbrev pub IsFreshLane : Config → Object → Type 0
IsFreshLane config object = (q : SequencerSeen) × (object ≡ Sequencer q) × IsFresh config q

-- the call changed nothing, and answered this number of the reader
abbrev pub Tells : (ReaderSeen → ℕ) → ReaderSeen → Reply → ReaderSeen → Type 0
Tells number r reply t = (t ≡ r) × (reply ≡ answered 13 (number r))

abbrev pub began_at : ReaderSeen → ℕ
began_at r = r.start

abbrev pub TookAndStayed : ReaderSeen → Taken ℕ → ReaderSeen → Type 0
TookAndStayed r answer t = IsSameReader r t × TookNext r answer t

-- What a reader takes at once, as many as there is room for, and at most 64, stands at the front of what was handed in.
abbrev pub TookAtOnce : List ℕ → List ℕ → ReaderSeen → Taken ℕ → ReaderSeen → Type 0
TookAtOnce before after r answer t = IsSameReader r t
    × ((xs : List ℕ) × (after ≡ xs ++ drop (length xs) before) × TookAll r (min 64 (length before)) answer xs t)
