-- The calls of a script on the subscriptions of a flow for threads: each is a round under the flow's lock, or a look at its lane, of
-- the very party that made it.
use Rattle.std.specs.Prelude.{◌≡◌, ◌⊎◌, ◌<◌, ◌≤◌, ℕ, Bool, true, false, Option, Some, None, Result, Ok, Err, List, [], ◌∷◌, ◌++◌, length, slice_get, slice_set}
use Rattle.flow_terms.specs.declared.refusal.Refusal.{Refusal}
use Rattle.flow_terms.specs.declared.refusal.Refusal.TheVariants.{NoMemory, PreludeTooLong}
use Rattle.flow_terms.specs.declared.ids.SubId.{SubId}
use Rattle.flow_terms.specs.declared.answers.Next.{Next}
use Rattle.flow_terms.specs.declared.answers.Next.TheVariants.{Value, Nothing, Closed}
use Rattle.shared_rounds.specs.declared.round.Round.{Round}
use Rattle.shared_rounds.specs.declared.round.Round.TheVariants as round
use Rattle.shared_rounds.specs.Entering.{Made}
use Rattle.shared_flow.specs.Looks.{WasAdmittedBy, GaveIn, MissedTwice}
use Rattle.shared_flow.specs.Owners.{Owning, at_rest, IsLeftOut}
use Rattle.shared_rounds.specs.Reach.{with_round}
use Rattle.shared_flow.specs.Parties.{Subscribed, newcomer_of, sharing_of}
use Rattle.shared_flow.specs.Preludes.{GreetedOr, IsPast}
use Rattle.script_calls.specs.Calls.{Receipts}
use Rattle.script_engines.specs.Places.{AtPlace}
use Rattle.script_engines.specs.declared.subscriptions.Subscriptions.{Subscriptions}

-- an owner of a flow, and the subscriptions that were made by it, a cancelled one gone
pub record Subscribing : Type 0 where
  pub flow : Owning
  pub places : List (Option (Subscribed ℕ))

abbrev pub subscribing_of : {W : Type 0} → Subscriptions W → Subscribing
subscribing_of it = record { flow = it.flow; places = it.places.items }

-- the owner made the round that admitted a subscription, which has half its share of the lock, the next place and these values still to be
-- given; or its round left it out, or there was no memory for one and nobody made a call, and before both, these values are too many
abbrev pub Subscribes : Subscribing → List ℕ → Result SubId Refusal → Subscribing → Type 0
Subscribes old prelude (Ok id) new = (length prelude ≤ 16) × (id.0 ≡ length old.places) × ((s : Subscribed ℕ) × (s.rest ≡ prelude)
    × (s.party ≡ newcomer_of s.party.pass old.flow.party) × WasAdmittedBy s.number s.reader (sharing_of old.flow.party) new.flow.party
    × (new ≡ record { flow = at_rest (with_round (round.Subscribe (Ok s.number)) new.flow.party.seen (sharing_of old.flow.party)); places = old.places ++ Some s ∷ [] }))
Subscribes old prelude (Err refusal) new = ((16 < length prelude) × (refusal ≡ PreludeTooLong) × (new ≡ old))
    ⊎ ((length prelude ≤ 16) × IsLeftOut old.flow refusal new.flow × (new.places ≡ old.places))

-- a subscription looked at the lane, and took the next value, or took none and left its waker in a round
abbrev pub Looks : Subscribed ℕ → Next ℕ → Subscribed ℕ → Type 0
Looks s (Value v) t = ((t.party ≡ s.party) ⊎ Made (round.Next s.number) s.party t.party) × (t.number ≡ s.number)
    × GreetedOr s v t (GaveIn (λ w. w) s.reader v t.reader)
Looks s Nothing t = Made (round.Pending s.number) s.party t.party × (t.number ≡ s.number) × IsPast s t × MissedTwice s.reader t.reader
Looks s Closed t = ⊥

-- what stands at a place looked, if a subscription does
abbrev pub LooksIn : Option (Subscribed ℕ) → Next ℕ → Option (Subscribed ℕ) → Type 0
LooksIn None reply place = (reply ≡ Closed) × (place ≡ None)
LooksIn (Some s) reply place = (t : Subscribed ℕ) × Looks s reply t × (place ≡ Some t)

-- what stands at a place was ended, if a subscription does
abbrev pub EndsIn : Option (Subscribed ℕ) → Bool → Option (Subscribed ℕ) → Type 0
EndsIn None reply place = (reply ≡ false) × (place ≡ None)
EndsIn (Some s) reply place = (reply ≡ true) × (place ≡ None)

-- the subscriptions, where this stands at a place now
abbrev pub with_place : Subscribing → ℕ → Option (Subscribed ℕ) → Subscribing
with_place it place left = record it { places = slice_set it.places place left }

-- the owner made this round, and nothing else has changed
abbrev pub OwnerMade : Round → Subscribing → Subscribing → Type 0
OwnerMade r old new = (new ≡ record old { flow = at_rest (with_round r new.flow.party.seen old.flow.party) }) × Made r old.flow.party new.flow.party

-- the owner made the round that read these values, or had no memory for them
abbrev pub Caches : Subscribing → Result (List ℕ) Refusal → Subscribing → Type 0
Caches old (Ok values) new = OwnerMade (round.Cache (Ok values)) old new
Caches old (Err refusal) new = (refusal ≡ NoMemory) × OwnerMade (round.Cache (Err NoMemory)) old new

-- the owner made the round that counted so many
abbrev pub Counts : Subscribing → ℕ → Subscribing → Type 0
Counts old count new = OwnerMade (round.Count count) old new

abbrev pub subscribing : Receipts Subscribing
subscribing = record {
  Subscribes = Subscribes;
  Nexts = λ old id reply new. AtPlace LooksIn Closed (slice_get old.places id.0) (with_place old id.0) old reply new;
  Cancels = λ old id reply new. AtPlace EndsIn false (slice_get old.places id.0) (with_place old id.0) old reply new;
  Caches = Caches;
  Counts = Counts;
}
