-- What is left of a subscription's prelude, which it is given first.
use Rattle.std.specs.Prelude.{◌≡◌, ◌⊎◌, ℕ, [], ◌∷◌}
use Rattle.shared_lane.specs.declared.reader.Taken.{Taken}
use Rattle.shared_lane.specs.declared.reader.Taken.TheVariants.{Value, Nothing, Overtaken}
use Rattle.shared_rounds.specs.Meeting.{Looked}
use Rattle.shared_flow.specs.Looks.{Gave}
use Rattle.shared_flow.specs.Parties.{Subscribed}

-- the subscription was given the next value of its prelude: it made no round, and its reader did nothing
abbrev pub IsGreeted : {T : Type 0} → Subscribed T → T → Subscribed T → Type 0
IsGreeted s v t = (s.rest ≡ v ∷ t.rest) × (t.party ≡ s.party) × (t.reader ≡ s.reader)

-- nothing is left of its prelude
abbrev pub IsPast : {T : Type 0} → Subscribed T → Subscribed T → Type 0
IsPast s t = (s.rest ≡ []) × (t.rest ≡ [])

-- it was given the next value of its prelude; or nothing is left of that, and this is so
abbrev pub GreetedOr : {T : Type 0} → Subscribed T → T → Subscribed T → Type 0 → Type 0
GreetedOr s v t P = IsGreeted s v t ⊎ (IsPast s t × P)

-- what an attempt to take the next value did
abbrev pub TookFirst : {T : Type 0} → (ℕ → T) → Subscribed T → Taken T → Subscribed T → Type 0
TookFirst read_as s (Value v) t = GreetedOr s v t (Gave read_as s.reader v t.reader)
TookFirst read_as s Nothing t = IsPast s t × Looked s.reader Nothing t.reader
TookFirst read_as s Overtaken t = IsPast s t × Looked s.reader Overtaken t.reader
