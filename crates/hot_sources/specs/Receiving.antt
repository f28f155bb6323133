-- What a run over a subscription gives, and what the subscription was given meanwhile.
use Rattle.std.specs.Prelude.{◌≡◌, ◌⊎◌, ℕ, List, [], ◌∷◌, ◌++◌, None}
use Rattle.futures.specs.declared.task.Poll.{Poll}
use Rattle.futures.specs.declared.task.Poll.TheVariants.{Ready, Pending}
use Rattle.cold_flow.specs.declared.event.Event.{Event}
use Rattle.cold_flow.specs.declared.event.Event.TheVariants.{Value, End}
use Rattle.cold_flow.specs.Trace.{Trace}
use Rattle.shared_flow.specs.Looks.{GaveIn, MissedTwice, OnlyNext, MadeRoomIn}
use Rattle.shared_flow.specs.Parties.{Subscribed}
use Rattle.shared_flow.specs.Preludes.{IsPast, IsGreeted, GreetedOr}

-- a trace that has not ended
abbrev pub Unended : {A E : Type 0} → Trace A E → Type 0
Unended t = t.1 ≡ None

module _ {T : Type 0} where
  -- The subscription was given v, the next value of its prelude or the next that was accepted. What waits for room was let in.
  pub record WasGiven (read_as : ℕ → T) (s : Subscribed T) (v : T) (t : Subscribed T) : Type 0 where
    pub number : t.number ≡ s.number
    pub rounds : OnlyNext s.number s.party t.party
    pub given : GreetedOr s v t (GaveIn read_as s.reader v t.reader)
    pub room : IsGreeted s v t ⊎ MadeRoomIn s t

  -- it looked, and no value was there
  pub record FoundNone (s t : Subscribed T) : Type 0 where
    pub number : t.number ≡ s.number
    pub rounds : OnlyNext s.number s.party t.party
    pub none_there : IsPast s t × MissedTwice s.reader t.reader

module _ {T : Type 0} (read_as : ℕ → T) where
  -- what a poll gave is what the subscription was given; with an end it was asked nothing
  abbrev pub Received : {E : Type 0} → Subscribed T → Poll (Event T E) → Subscribed T → Type 0
  Received s (Ready (Value v)) t = WasGiven read_as s v t
  Received s (Ready (End k)) t = t ≡ s
  Received s Pending t = FoundNone s t

  -- the subscription was given these values, one after another, and no others
  pub data Receives : Subscribed T → List T → Subscribed T → Type 0 where
    none_given : {s : Subscribed T} → Receives s [] s
    given_more : {s t u : Subscribed T} {xs ys : List T} (x : T) → Receives s xs t → WasGiven read_as t x u → ys ≡ xs ++ x ∷ [] → Receives s ys u
    looked_on : {s t u : Subscribed T} {xs : List T} → Receives s xs t → FoundNone t u → Receives s xs u
