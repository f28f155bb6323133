-- What a wait comes to that can be let go.
use Rattle.std.specs.Prelude.{◌≡◌, ◌⊎◌, ℕ, List, [], ◌∷◌, ◌++◌, Option, Some, None, Result, Ok, Err}
use Rattle.flow_terms.specs.declared.refusal.Refusal.{Refusal}
use Rattle.flow_terms.specs.declared.refusal.Refusal.TheVariants.{NoMemory}
use Rattle.flow_terms.specs.declared.answers.Begun.TheVariants as begun
use Rattle.shared_lane.specs.Views.{ReceiptSeen}
use Rattle.shared_rounds.specs.declared.round.Emission.{Emission}
use Rattle.shared_flow.specs.Parties.{Emitting, Subscribed}
use Rattle.shared_flow.specs.Emitted.{Emissions, Outcome, accepted, dropped, withdrawn, outcome_of_emit, settled}
use Rattle.shared_flow.specs.Emitters.{WasStarted, WasFinished, WasLeft, WasWithdrawn}
use Rattle.shared_flow.specs.Emitters as emitters
use Rattle.shared_flow.specs.Looks.{HasMadeRoom, MissedOn, OnlyNext, Waited}
use Rattle.shared_flow.specs.Preludes.{IsGreeted, IsPast, GreetedOr}
use Rattle.flow_stopping.specs.declared.answers.Received.{Received}
use Rattle.flow_stopping.specs.declared.answers.Received.TheVariants as received
use Rattle.flow_stopping.specs.declared.answers.Emitted.{Emitted}
use Rattle.flow_stopping.specs.declared.answers.Emitted.TheVariants as emitted

-- the value in an answer, if there is one, as a list
abbrev pub received_of : {T : Type 0} → Result (Received T) Refusal → List T
received_of (Ok (received.Value v)) = v ∷ []
received_of (Ok received.Stopped) = []
received_of (Err refusal) = []

-- the subscription made rounds of looks alone, if any, and received nothing: it did nothing at all; or nothing was left of its
-- prelude, and its looks took nothing
abbrev pub LookedOn : {T : Type 0} → Subscribed T → Subscribed T → Type 0
LookedOn s t = (t ≡ s) ⊎ ((t.number ≡ s.number) × OnlyNext s.number s.party t.party × IsPast s t × MissedOn s.reader t.reader)

-- what a wait for the next value comes to
abbrev pub Receives : {T : Type 0} → (ℕ → T) → Subscribed T → Result (Received T) Refusal → Subscribed T → Type 0
Receives read_as s (Ok (received.Value v)) t =
    (t.number ≡ s.number) × OnlyNext s.number s.party t.party × GreetedOr s v t (Waited read_as s.reader v t.reader)
    × (IsGreeted s v t ⊎ HasMadeRoom s t)
Receives read_as s (Ok received.Stopped) t = LookedOn s t
Receives read_as s (Err refusal) t = (refusal ≡ NoMemory) × (t ≡ s)

-- what became of a word that was emitted, by the answer
abbrev pub outcome_of_wait : Result Emitted Refusal → Outcome
outcome_of_wait (Ok (emitted.Accepted receipt)) = accepted receipt.number
outcome_of_wait (Ok emitted.Dropped) = dropped
outcome_of_wait (Ok emitted.Stopped) = withdrawn
outcome_of_wait (Err refusal) = outcome_of_emit (Err refusal)

-- the list grew by this word, with what became of it; where the parker was stopped before, it is as it was
abbrev pub GrewByOne : Emissions → ℕ → Result Emitted Refusal → Emissions → Type 0
GrewByOne old word (Ok emitted.Stopped) new = (new ≡ old) ⊎ (new ≡ old ++ (word, withdrawn) ∷ [])
GrewByOne old word answer new = new ≡ old ++ (word, outcome_of_wait answer) ∷ []

-- the last word, which is in flight: a receipt ended it, or it is still in flight
abbrev pub after_polls : Option ReceiptSeen → Emissions → Emissions
after_polls (Some receipt) xs = settled (accepted receipt.number) xs
after_polls None xs = xs

-- and it was given up, which had been accepted, or had not
abbrev pub outcome_given_up : Option ReceiptSeen → Outcome
outcome_given_up (Some receipt) = accepted receipt.number
outcome_given_up None = withdrawn

-- What an emission in flight comes to that is waited for: polls find it finished, or it is given up, which had been accepted; or
-- the parker is stopped, or finds no memory to wait by, and it is withdrawn
abbrev pub EndsAs : Emitting → Result Emitted Refusal → Emitting → Type 0
EndsAs e (Ok (emitted.Accepted receipt)) f =
    (m : Emitting) × emitters.Waited e m × (WasFinished m receipt f ⊎ WasLeft m receipt f)
EndsAs e (Ok emitted.Dropped) f = ⊥
EndsAs e (Ok emitted.Stopped) f = (m : Emitting) × emitters.Waited e m × WasWithdrawn m f
EndsAs e (Err refusal) f = (refusal ≡ NoMemory) × WasWithdrawn e f

-- the emission began to wait, and was waited for
abbrev pub WaitedFor : Emitting → Emission → Result Emitted Refusal → Emitting → Type 0
WaitedFor e emission answer f = (m : Emitting) × WasStarted e emission (Ok (begun.Waiting tt)) m × EndsAs m answer f

-- what an emission comes to that is made, and waited for: it ended at its start, or had to wait; or nothing was done, since the
-- parker was stopped before
abbrev pub Emits : Emitting → Emission → Result Emitted Refusal → Emitting → Type 0
Emits e emission (Ok (emitted.Accepted receipt)) f =
    WasStarted e emission (Ok (begun.Accepted receipt)) f ⊎ WaitedFor e emission (Ok (emitted.Accepted receipt)) f
Emits e emission (Ok emitted.Dropped) f = WasStarted e emission (Ok begun.Dropped) f
Emits e emission (Ok emitted.Stopped) f = (f ≡ e) ⊎ WaitedFor e emission (Ok emitted.Stopped) f
Emits e emission (Err refusal) f = WasStarted e emission (Err refusal) f ⊎ WaitedFor e emission (Err refusal) f
