-- What a list of values comes to that is emitted, and what is taken at once.
use Rattle.std.specs.Prelude.{◌≡◌, ◌≢◌, ◌⊎◌, ℕ, ◌+◌, ◌-◌, ◌<◌, ◌≤◌, List, [], ◌∷◌, ◌++◌, length, map, take, Some, None, Result, Ok, Err}
use Rattle.flow_terms.specs.declared.refusal.Refusal.{Refusal}
use Rattle.shared_core.specs.Preludes.{GivesSome}
use Rattle.shared_lane.specs.declared.reader.Taken.{Taken}
use Rattle.shared_lane.specs.declared.reader.Taken.TheVariants.{Value, Nothing, Overtaken}
use Rattle.shared_lane.specs.Picks.{TookAll}
use Rattle.shared_lane.specs.Readers.{IsSameReader}
use Rattle.shared_lane.specs.Views.{ReaderSeen, ReceiptSeen}
use Rattle.shared_flow.specs.declared.emitter.blocks.CutShort.{CutShort}
use Rattle.shared_rounds.specs.declared.round.Round.TheVariants as round
use Rattle.shared_flow.specs.Emitters.{Emits, emission_by}
use Rattle.shared_rounds.specs.Entering.{Made}
use Rattle.shared_flow.specs.Looks.{Waited}
use Rattle.shared_rounds.specs.Reach.{with_round}
use Rattle.shared_flow.specs.Parties.{Emitting, Subscribed}
use Rattle.shared_flow.specs.Preludes.{IsPast}

-- the emitter tried these words in order, in one round: so many were accepted, or the first was refused
abbrev pub TriedAll : Emitting → List ℕ → Result ℕ Refusal → Emitting → Type 0
TriedAll e words answer f = (f ≡ record e { party = with_round (round.TryAll e.id words answer) f.party.seen e.party }) × Made (round.TryAll e.id words answer) e.party f.party

-- Words were emitted in order, so many of which were accepted: by rounds that tried some of them, and by emissions that were waited for.
-- One that isn't accepted was dropped by the policy.
pub data EmitsOn : Emitting → List ℕ → ℕ → Emitting → Type 0 where
  none_yet : (e : Emitting) → EmitsOn e [] 0 e
  tried_more : (e f g : Emitting) (words more : List ℕ) (n k : ℕ) → EmitsOn e words n f → TriedAll f more (Ok k) g → EmitsOn e (words ++ take k more) (n + k) g
  one_more : (e f g : Emitting) (words : List ℕ) (word n : ℕ) (receipt : ReceiptSeen) → EmitsOn e words n f → Emits f (emission_by f word) (Ok (Some receipt)) g → EmitsOn e (words ++ word ∷ []) (n + 1) g
  one_dropped : (e f g : Emitting) (words : List ℕ) (word n : ℕ) → EmitsOn e words n f → Emits f (emission_by f word) (Ok None) g → EmitsOn e (words ++ word ∷ []) n g

-- of these words so many were emitted, from the first on, some at least, and so many accepted
abbrev pub EmitsSome : Emitting → List ℕ → ℕ → ℕ → Emitting → Type 0
EmitsSome e words emitted accepted f = (0 < emitted) × (emitted ≤ length words) × EmitsOn e (take emitted words) accepted f

-- this word was refused: as a round tried it and those after it, or as it was emitted and waited for
abbrev pub IsRefused : Emitting → ℕ → List ℕ → Refusal → Emitting → Type 0
IsRefused e word later refusal f = TriedAll e (word ∷ later) (Err refusal) f ⊎ Emits e (emission_by e word) (Err refusal) f

-- the words up to one that was refused were emitted
pub record IsCutShort (e : Emitting) (words : List ℕ) (cut : CutShort) (f : Emitting) : Type 0 where
  pub before : List ℕ
  pub word : ℕ
  pub later : List ℕ
  pub then : Emitting
  pub words_are : words ≡ before ++ word ∷ later
  pub emitted : length before ≡ cut.emitted
  pub accepted : EmitsOn e before cut.accepted then
  pub refused : IsRefused then word later cut.refusal f

-- the subscription was given values of its prelude, as many as there is room for: it made no round, and its reader did nothing
abbrev pub IsGreetedAll : {T : Type 0} → Subscribed T → ℕ → List T → Subscribed T → Type 0
IsGreetedAll s room values t = (s.rest ≢ []) × GivesSome s.rest room values t.rest × (t.party ≡ s.party) × (t.reader ≡ s.reader)

-- the reader took all that was there and found room, or why it took none
abbrev pub LookedAll : ReaderSeen → ℕ → Taken ℕ → List ℕ → ReaderSeen → Type 0
LookedAll r room taken words t = IsSameReader r t × TookAll r room taken words t

-- What an attempt to take all values did. They are those of its prelude, where some are left, and so many; or nothing is left of that, and
-- they are read from the words that its reader took.
abbrev pub TookAllFirst : {T : Type 0} → (ℕ → T) → Subscribed T → ℕ → Taken ℕ → List T → Subscribed T → Type 0
TookAllFirst read_as s room taken values t = (IsGreetedAll s room values t × (taken ≡ Value (length values)))
    ⊎ (IsPast s t × ((words : List ℕ) × (values ≡ map read_as words) × LookedAll s.reader room taken words t.reader))

-- how many values were taken
abbrev pub count_of : Taken ℕ → ℕ
count_of (Value k) = k
count_of Nothing = 0
count_of Overtaken = 0

-- a look for all values took none: its position is the tail that it loaded, or it was moved
abbrev pub MissedAll : ReaderSeen → ℕ → ReaderSeen → Type 0
MissedAll r room t = LookedAll r room Nothing [] t ⊎ LookedAll r room Overtaken [] t

-- What waiting for values came to. A first look took all; or it took none, a value was waited for, and a look after that took all that was
-- there beside it, if any was.
abbrev pub GotAll : {T : Type 0} → (ℕ → T) → ReaderSeen → ℕ → List T → ReaderSeen → Type 0
GotAll {T} read_as r room values t = ((words : List ℕ) × (values ≡ map read_as words) × LookedAll r room (Value (length words)) words t)
    ⊎ ((m : ReaderSeen) × (n : ReaderSeen) × (v : T) × (last : Taken ℕ) × (words : List ℕ) × (values ≡ v ∷ map read_as words)
    × MissedAll r room m × Waited read_as m v n × LookedAll n (room - 1) last words t)

-- the values are those of its prelude, where some are left, and so many; or nothing is left of that
abbrev pub GotAllFirst : {T : Type 0} → (ℕ → T) → Subscribed T → ℕ → List T → Subscribed T → Type 0
GotAllFirst read_as s room values t = IsGreetedAll s room values t ⊎ (IsPast s t × GotAll read_as s.reader room values t.reader)
